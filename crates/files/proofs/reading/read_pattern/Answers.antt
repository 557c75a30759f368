use Rattle.std.proofs.Common.{◌≡◌, ℕ, ◌+◌, ◌*◌, ◌<◌, ◌≤◌, true, List, ◌++◌, length, drop, None, sym, ap, ◌∙◌, subst}
use Rattle.std.proofs.lemmas.Bool.{eqb-true}
use Rattle.blocks.specs.Layout.{payload}
use Rattle.patterns.specs.declared.row.Row.{Row}
use Rattle.patterns.specs.Questions.{known}
use Rattle.files.specs.declared.heading.Heading.{Heading}
use Rattle.files.specs.Heading.{heading_of, length_of}
use Rattle.files.specs.Layout.{states_in, rows_in, roots_in, table_in, root_of, row_of, decoded, fronted}
use Rattle.files.specs.Questions.{read_fault}
use Rattle.blocks.proofs.OneBlock.{bytes_from_typed}
use Rattle.files.proofs.Ordering.{sound, rows_known}
use Rattle.files.proofs.Rewriting.{writes_back}
use Rattle.files.proofs.Fields.{length_each}
use Rattle.files.proofs.reading.read_pattern.Goals as goal

-- what filling the tables asks
record Ready (p : List ℕ) (n N : ℕ) (h : Heading) : Type 0 where
  long : length p ≡ length_of h
  room : (h.states ≤ n) × (h.rows ≤ N)
  all_known : (i : ℕ) → i < h.rows → known (row_of (drop (6 * i) (drop (16 + 2 * h.states) p))) ≡ true

ready : (file : List ℕ) (n N : ℕ) (h : Heading) → read_fault file n N ≡ None → h ≡ heading_of (payload file) → Ready (payload file) n N h
ready file n N h e f =
    let s = sound file n N e in
    let p = payload file in
    subst (Ready p n N) (sym f) (record {
      long = eqb-true (length p) (16 + 2 * states_in p + 6 * rows_in p) s.measured_right;
      room = (s.roots_fit, s.rows_fit);
      all_known = rows_known p s.is_pattern;
    })

pub fill_tables-requires : goal.fill_tables-requires
fill_tables-requires c =
    let e = c.in_ok-heading.ensures in
    let r = ready c.args.file.now (length c.args.roots.now) (length c.args.rows.now) c.in_ok-heading.heading e.0 e.1 in
    record { long = r.long; room = r.room; known = r.all_known }

roots_fronted : (p t : List ℕ) (h : Heading) → h ≡ heading_of p → roots_in h.states p ++ drop h.states t ≡ fronted (decoded p).roots t
unfolding decoded
roots_fronted p t h e =
    ap (λ (g : Heading). roots_in g.states p ++ drop g.states t) e
    ∙ ap (λ (n : ℕ). roots_in (states_in p) p ++ drop n t) (sym (length_each 2 root_of (states_in p) (drop 16 p)))

rows_fronted : (p : List ℕ) (t : List Row) (h : Heading) → h ≡ heading_of p
    → table_in h.states h.rows p ++ drop h.rows t ≡ fronted (decoded p).rows t
unfolding decoded
rows_fronted p t h e =
    ap (λ (g : Heading). table_in g.states g.rows p ++ drop g.rows t) e
    ∙ ap (λ (n : ℕ). table_in (states_in p) (rows_in p) p ++ drop n t) (sym (length_each 6 row_of (rows_in p) (drop (16 + 2 * states_in p) p)))

pub returns : goal.returns
returns c =
    let p = payload c.args.file.now in
    let h = c.in_ok-heading.heading in
    let e = c.in_ok-heading.ensures in
    record {
      cases = e;
      again = writes_back c.args.file.now (bytes_from_typed c.args.file.now c.type_inv.file)
          (sound c.args.file.now (length c.args.roots.now) (length c.args.rows.now) e.0).no_fault;
      roots = c.fill_tables.ensures.roots ∙ roots_fronted p c.args.roots.now h e.1;
      rows = c.fill_tables.ensures.rows ∙ rows_fronted p c.args.rows.now h e.1;
    }
