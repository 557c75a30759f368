use Rattle.std.proofs.Common.{◌≡◌, true, length, sym, refl, ◌∙◌, arith}
use Rattle.finds.specs.Intact.{intact}
use Rattle.finds.proofs.Walking.{intact_chained, sequence_length}
use Rattle.finds.proofs.Refusing.{sequence_short, sequence_fits}
use Rattle.finds.proofs.sequences.write_sequence.Goals as goal

pub returns-then-list-count : goal.returns-then-list-count
returns-then-list-count g c =
    let s = g.K.Kind.shape c.args.kind.now in
    let fs = c.args.finds.now in
    let t : intact s c.args.starts fs ≡ true = sym c.if-not-is_intact.ensures.value in
    let long = sequence_length s fs (intact_chained (c.if-not-is_intact.ensures.test.0 refl)) in
    record {
      cases = record { refused = sequence_short s c.args.starts fs (length c.args.list.now) t (omega arith); same = refl };
      ok = tt;
    }

pub write_events-requires : goal.write_events-requires
write_events-requires g c =
    record {
      chained = intact_chained (c.if-not-is_intact.ensures.test.0 refl);
      count = c.last_length-count.ensures;
      room = c.if-list-count.false;
    }

pub returns : goal.returns
returns g c =
    let s = g.K.Kind.shape c.args.kind.now in
    let fs = c.args.finds.now in
    let t : intact s c.args.starts fs ≡ true = sym c.if-not-is_intact.ensures.value in
    let long = sequence_length s fs (intact_chained (c.if-not-is_intact.ensures.test.0 refl)) in
    record {
      cases = record {
        unrefused = sequence_fits s c.args.starts fs (length c.args.list.now) t (omega arith);
        count = c.last_length-count.ensures ∙ sym long;
        items = c.write_events.ensures;
      };
      ok = t;
    }
