use Rattle.std.proofs.Common.{ℕ, ◌^◌, Bool, eqb, sym, ◌∙◌, arith}
use Rattle.std.proofs.lemmas.Bool.{ne_eqb}
use Rattle.std.proofs.lemmas.Nat.{one_shl, pow_below}
use Rattle.sets.specs.Sets.{one}
use Rattle.sets.proofs.Members.{has_above, has_power, has_set_of, set_of_lt, same_set}
use Rattle.sets.proofs.single.Goals as goal

pub returns-then-member-lt-MAX_STATES : goal.returns-then-member-lt-MAX_STATES
returns-then-member-lt-MAX_STATES c =
    let m = c.args.member in
    let is : ℕ → Bool = λ q. eqb q m in
    one_shl m 64 (omega arith)
    ∙ same_set 64 (2 ^ m) (one m) (pow_below m 64 (omega arith)) (set_of_lt is 64)
    (λ q h. has_power m q ∙ sym (has_set_of is 64 q h))

pub returns-else-member-lt-MAX_STATES : goal.returns-else-member-lt-MAX_STATES
returns-else-member-lt-MAX_STATES c =
    let m = c.args.member in
    let is : ℕ → Bool = λ q. eqb q m in
    same_set 64 0 (one m) (omega arith) (set_of_lt is 64)
    (λ q h. has_above 0 0 q (omega arith) (omega arith) ∙ sym (ne_eqb q m (λ e. omega arith)) ∙ sym (has_set_of is 64 q h))
