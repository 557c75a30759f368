-- What holds of a search after any number of queries. Assumes nothing.
use Rattle.std.proofs.Common.{◌≡◌, ℕ, suc, ◌+◌, ◌<◌, ◌≤◌, true, false, List, length, Some, None, Option}
use Rattle.std.specs.List.{slice_get}
use Rattle.kinds.specs.Shape.{Shape}
use Rattle.kinds.specs.Accepted.{Accepted}
use Rattle.kinds.specs.Certificate.{covered}
use Rattle.stores.specs.Holding.{Apart}
use Rattle.search.specs.declared.Find.{Find}
use Rattle.search.specs.declared.Verdict.{Verdict}
use Rattle.search.specs.declared.Verdict.TheVariants.{Matches, Never, Full}
use Rattle.search.specs.Search.{State, last_row_of}
use Rattle.search.proofs.Entries.{Each}

module _ {C : Type 0} (s : Shape C) where
  -- a row of length at most n covers x
  pub record ByRow (fs : List (Find C)) (n : ℕ) (x : C) : Type 0 where
    pub place : ℕ
    pub entry : Find C
    pub there : slice_get fs place ≡ Some entry
    pub short : entry.length ≤ n
    pub covers : s.within x entry.configuration ≡ true

  -- a row that opening recorded
  pub record Start (y : Find C) : Type 0 where
    pub none : y.length ≡ 0
    pub place : ℕ
    pub first : slice_get s.firsts place ≡ Some y.configuration

  -- row i came from an earlier row
  pub record Came (fs : List (Find C)) (i : ℕ) (y : Find C) : Type 0 where
    pub from : Find C
    pub there : slice_get fs y.origin ≡ Some from
    pub earlier : y.origin < i
    pub longer : y.length ≡ suc from.length
    pub move : y.via < s.moves
    pub back : s.back y.via from.configuration ≡ Some y.configuration

  -- the first f rows are starts, and every other came from an earlier one
  pub record Origins (fs : List (Find C)) (f : ℕ) : Type 0 where
    pub starts : (i : ℕ) (y : Find C) → slice_get fs i ≡ Some y → i < f → Start y
    pub came : (i : ℕ) (y : Find C) → slice_get fs i ≡ Some y → f ≤ i → Came fs i y

  -- rows ascend in length; the store covers them all and holds nothing but their configurations
  pub record Rows (fs : List (Find C)) (h : List C) : Type 0 where
    pub fits : Each (λ y. s.fits y.configuration ≡ true) fs
    pub ascends : (i j : ℕ) (x y : Find C) → i ≤ j → slice_get fs i ≡ Some x → slice_get fs j ≡ Some y → x.length ≤ y.length
    pub covers : Each (λ y. covered s h y.configuration ≡ true) fs
    pub recorded : Each (λ x. (j : ℕ) × (y : Find C) × (slice_get fs j ≡ Some y) × (y.configuration ≡ x)) h
    pub apart : Apart s h
    pub size : length h ≤ length fs

  -- no goal is recorded, and the rows before e are closed
  pub record Clear (fs : List (Find C)) (e : ℕ) : Type 0 where
    pub firsts : Each (ByRow fs 0) s.firsts
    pub closed : (i : ℕ) (y : Find C) → slice_get fs i ≡ Some y → i < e → (k : ℕ) (x : C) → s.back k y.configuration ≡ Some x → ByRow fs (suc y.length) x
    pub goalless : Each (λ y. s.goal y.configuration ≡ false) fs

  -- without a verdict: there is a row e, and no row is more than one longer
  pub record Going (t : State C) : Type 0 where
    pub clear : Clear t.finds t.row
    pub here : t.row < length t.finds
    pub near : (y : Find C) → slice_get t.finds t.row ≡ Some y → Each (λ z. z.length ≤ suc y.length) t.finds
    pub counted : t.queries + t.starts ≡ length t.finds + t.row

  -- at FULL: the last query recorded and closed nothing
  pub record Stuck (t : State C) : Type 0 where
    pub clear : Clear t.finds t.row
    pub here : t.row < length t.finds
    pub counted : t.queries + t.starts ≡ suc (length t.finds + t.row)

  -- at NEVER: every row is closed
  pub record Done (t : State C) : Type 0 where
    pub clear : Clear t.finds t.row
    pub past : t.row ≡ length t.finds
    pub counted : t.queries + t.starts ≡ length t.finds + t.row

  -- at MATCHES: the last row is a goal, and none is reached in fewer moves
  pub record Met (t : State C) : Type 0 where
    pub entry : Find C
    pub there : slice_get t.finds (last_row_of t) ≡ Some entry
    pub goal : s.goal entry.configuration ≡ true
    pub shortest : (ms : List ℕ) → Accepted s ms → entry.length ≤ length ms
    pub here : t.row < length t.finds
    pub counted : t.queries + t.starts ≡ length t.finds + t.row

  abbrev pub Stage : State C → Option Verdict → Type 0
  Stage t None = Going t
  Stage t (Some Full) = Stuck t
  Stage t (Some Never) = Done t
  Stage t (Some Matches) = Met t

  -- a search over r rows
  pub record Sound (r : ℕ) (t : State C) : Type 0 where
    pub rows : Rows t.finds t.held
    pub origins : Origins t.finds t.starts
    pub starts : t.starts ≤ length t.finds
    pub begins : 0 < length t.finds → 0 < t.starts
    pub room : length t.finds ≤ r
    pub stage : Stage t t.verdict
