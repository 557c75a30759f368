-- What it takes that a call is not refused. Assumes nothing.
use Rattle.std.proofs.Common.{◌≡◌, ℕ, ◌≤◌, Bool, true, false, cond, ◌&&◌, eqb, leb, List, length, take, Some, None, Decides, Option, refl}
use Rattle.std.proofs.lemmas.Bool.{and_parts, and_from, eqb-true, leb-true, le-leb, eq-eqb}
use Rattle.kinds.specs.Shape.{Shape}
use Rattle.kinds.proofs.Values.{none_some}
use Rattle.search.specs.declared.Find.{Find}
use Rattle.search.specs.Promise.{Admits}
use Rattle.finds.specs.declared.refusals.Refused.TheVariants.{Rows, Store, Altered}
use Rattle.finds.proofs.Intacts.{intact_decides}
use Rattle.checks.specs.declared.counts.Counts.{Counts}
use Rattle.checks.specs.Questions.{store_kept, admitted, open_refusal, unaltered, advance_refusal}
use Rattle.checks.specs.Calls.{Ready}

-- a question that is answered yes, since nothing was refused
passes : {A : Type 0} (b : Bool) (o : Option A) (a : A) → cond b o (Some a) ≡ None → (b ≡ true) × (o ≡ None)
passes true o a e = (refl, e)
passes false o a e = none_some e refl

module _ {C : Type 0} (s : Shape C) (r : ℕ) where
  pub admitted_decides : Decides (admitted s r) (Admits s r)
  admitted_decides = (
    (λ t.
        let p = and_parts _ _ t in
        let q = and_parts _ _ p.1 in
        record { some_row = leb-true 1 r p.0; few_rows = leb-true r 4096 q.0; firsts_fit = leb-true (length s.firsts) r q.1 }),
    (λ a. and_from _ _ (le-leb 1 r a.some_row) (and_from _ _ (le-leb r 4096 a.few_rows) (le-leb (length s.firsts) r a.firsts_fit))),
  )

  module _ (h : List C) (l : ℕ) (fine : open_refusal s r h l ≡ None) where
    pub open_admits : Admits s r
    open_admits = admitted_decides.0 (passes (admitted s r) _ Rows fine).0

    stored : (eqb (length h) 0 && leb r l) ≡ true
    stored = (passes (eqb (length h) 0 && leb r l) None Store (passes (admitted s r) _ Rows fine).1).0

    pub open_empty : length h ≡ 0
    open_empty = eqb-true (length h) 0 (and_parts _ _ stored).0

    pub open_room : r ≤ l
    open_room = leb-true r l (and_parts _ _ stored).1

module _ {C : Type 0} (s : Shape C) (n : Counts) (t : List (Find C)) (h : List C) (l g : ℕ) where
  -- an advance that is not refused finds table and store ready
  pub advance_ready : advance_refusal s n t h l g ≡ None → Ready s n t h l
  advance_ready fine =
      let p = and_parts _ _ (passes (unaltered s n t && store_kept n h l) _ Altered fine).0 in
      let a = and_parts _ _ p.0 in
      let b = and_parts _ _ p.1 in
      record {
        long = eqb-true (length t) n.rows a.0;
        intact = (intact_decides s n.starts (take n.finds t)).0 a.1;
        size = leb-true (length h) n.finds b.0;
        limit = leb-true n.rows l b.1;
      }

  -- and the other way round
  pub ready_unaltered : Ready s n t h l → unaltered s n t ≡ true
  ready_unaltered r = and_from _ _ (eq-eqb (length t) n.rows r.long) ((intact_decides s n.starts (take n.finds t)).1 r.intact)

  pub ready_kept : Ready s n t h l → store_kept n h l ≡ true
  ready_kept r = and_from _ _ (le-leb (length h) n.finds r.size) (le-leb n.rows l r.limit)
