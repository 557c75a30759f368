use Rattle.std.proofs.Common.{◌≡◌, ℕ, ◌+◌, ◌*◌, ◌<◌, ◌≤◌, List, [], ◌∷◌, ◌++◌, map, length, get_or, take, set, is_some, sym, ap, ◌∙◌, arith}
use Rattle.std.proofs.lemmas.List.{append-nil, append_assoc, length-append, length-map, length-take-le, map_more, take_all}
use Rattle.patterns.specs.Automaton.{read}
use Rattle.patterns.proofs.Forming.{formed}
use Rattle.files.specs.Layout.{fronted}
use Rattle.duals.specs.Dual.{dual_at}
use Rattle.duals.specs.Without.{without, row_count_of, state_count_of}
use Rattle.pairs.proofs.Fronts.{front_push, front_front, length_fronted}
use Rattle.pairs.proofs.tables.Pair.fill_roots.Goals as goal

pub loop-q-init : goal.loop-q-init
loop-q-init c =
    let xs = (read c.args.self.later).roots in
    let old = c.args.roots.now in
    let t = c.copy_front.new.table in
    let e : t ≡ fronted xs old = c.copy_front.ensures in
    sym (ap (fronted (xs ++ [])) e ∙ front_front xs [] old ∙ ap (λ (zs : List ℕ). fronted zs old) (append-nil xs) ∙ sym e)

pub dual_place-requires : goal.dual_place-requires
dual_place-requires c =
    let F = formed (read c.args.self.earlier) (ap is_some c.args.self.earlier_judged) in
    let r = F.rooted c.loop-q.q c.loop-q-test.true in
    let n = F.few_rows in
    omega arith

-- how long the front is with the duals of the first q roots
front_length : (xs ys : List ℕ) (f : ℕ → ℕ) (q : ℕ) → q ≤ length ys → length (xs ++ map f (take q ys)) ≡ length xs + q
front_length xs ys f q h =
    length-append xs (map f (take q ys)) ∙ ap (λ (k : ℕ). length xs + k) (length-map (take q ys) f ∙ length-take-le q ys h)

pub loop-q-preserved : goal.loop-q-preserved
loop-q-preserved c =
    let xs = (read c.args.self.later).roots in
    let ys = (read c.args.self.earlier).roots in
    let b = length (read c.args.self.later).rows in
    let q = c.loop-q.q in
    let t = c.copy_front.new.table in
    let old = c.args.roots.now in
    let room = c.requires in
    let lt : length t ≡ length old = ap length c.copy_front.ensures ∙ length_fronted xs old (omega arith) in
    let h : q < length ys = c.loop-q-test.true in
    let front = xs ++ map (dual_at b) (take q ys) in
    let v = dual_at b (get_or ys q 0) in
    let dual : c.dual_place.result ≡ v = c.dual_place.ensures ∙ ap (λ (k : ℕ). dual_at k (get_or ys q 0)) c.shift-shift.ensures.base in
    ap (λ (j : ℕ). set c.loop-q.roots (j + q) c.dual_place.result) c.shift-shift.ensures.states
    ∙ ap (λ (r : List ℕ). set r (length xs + q) c.dual_place.result) c.loop-q.invariant
    ∙ ap (set (fronted front t) (length xs + q)) dual
    ∙ front_push front t v (length xs + q) (front_length xs ys (dual_at b) q (omega arith)) (omega arith)
    ∙ ap (λ (zs : List ℕ). fronted zs t)
    (append_assoc xs (map (dual_at b) (take q ys)) (v ∷ []) ∙ ap (λ (zs : List ℕ). xs ++ zs) (sym (map_more (dual_at b) ys q 0 h)))

pub returns : goal.returns
unfolding without
returns c =
    let B = read c.args.self.later in
    let A = read c.args.self.earlier in
    let xs = B.roots in
    let ys = A.roots in
    let b = length B.rows in
    let q = c.loop-q.q in
    let t = c.copy_front.new.table in
    let old = c.args.roots.now in
    let room = c.requires in
    let lt : length t ≡ length old = ap length c.copy_front.ensures ∙ length_fronted xs old (omega arith) in
    let e : q ≡ length ys = omega arith in
    let duals = map (dual_at b) ys in
    let all : take q ys ≡ ys = take_all q ys c.loop-q-test.false in
    let n : length (xs ++ duals) ≡ state_count_of B A = length-append xs duals ∙ ap (λ (k : ℕ). length xs + k) (length-map ys (dual_at b)) in
    ap (λ (j : ℕ). set c.loop-q.roots (j + length ys) (c.shift-shift.result.base + 2 * length A.rows)) c.shift-shift.ensures.states
    ∙ ap (λ (k : ℕ). set c.loop-q.roots (state_count_of B A) (k + 2 * length A.rows)) c.shift-shift.ensures.base
    ∙ ap (λ (r : List ℕ). set r (state_count_of B A) (row_count_of B A)) c.loop-q.invariant
    ∙ ap (λ (zs : List ℕ). set (fronted (xs ++ map (dual_at b) zs) t) (state_count_of B A) (row_count_of B A)) all
    ∙ front_push (xs ++ duals) t (row_count_of B A) (state_count_of B A) n (omega arith)
    ∙ ap (λ (zs : List ℕ). fronted zs t) (append_assoc xs duals (row_count_of B A ∷ []))
    ∙ ap (fronted (xs ++ (duals ++ row_count_of B A ∷ []))) c.copy_front.ensures
    ∙ front_front xs (duals ++ row_count_of B A ∷ []) old
