use Rattle.std.proofs.Common.{◌≡◌, ◌+◌, ◌-◌, ◌≤◌, ◌++◌, length, take, drop, sym, ap, ◌∙◌, arith}
use Rattle.std.proofs.lemmas.List.{length-take-le, take-take, drop_all}
use Rattle.std.proofs.lemmas.Slice.{between_is}
use Rattle.tries.specs.Changes.{sprouts, settled, grown, Settled}
use Rattle.tries.proofs.Settling.{fewer_kept, none_standing, still_standing, settled_then}
use Rattle.tries.proofs.exchanging.grow.Goals as goal

pub settle_rows-behind-requires : goal.settle_rows-behind-requires
settle_rows-behind-requires c =
    let rows = c.args.rows.now in
    let r = c.requires.room in
    let k = length-take-le c.args.used rows (omega arith) in
    record { order = omega (arith, c.requires.spotted.within); place = omega arith; part = none_standing rows }

pub settle_word-middle-requires : goal.settle_word-middle-requires
settle_word-middle-requires c =
    let rows = c.args.rows.now in
    let r = c.requires.room in
    let k = length-take-le c.args.used rows (omega arith) in
    let s = c.requires.spotted in
    let b = c.settle_rows-behind.ensures in
    record {
      deep = omega (arith, s.short);
      place = omega (arith, b.near, s.within, c.args.word.short);
      part = still_standing _ _ rows (length rows) c.settle_rows-behind.new.rows c.settle_rows-behind.result c.settle_rows-behind.auto.rows (none_standing rows) b;
    }

pub settle_rows-start-requires : goal.settle_rows-start-requires
settle_rows-start-requires c =
    let rows = c.args.rows.now in
    let r = c.requires.room in
    let k = length-take-le c.args.used rows (omega arith) in
    let s = c.requires.spotted in
    let b = c.settle_rows-behind.ensures in
    let m = c.settle_word-middle.ensures in
    let one = c.settle_rows-behind.new.rows in
    let behind = c.settle_rows-behind.result in
    record {
      order = omega arith;
      place = omega (arith, b.near, m.near, s.within, c.args.word.short);
      part = still_standing _ _ one behind c.settle_word-middle.new.rows c.settle_word-middle.result c.settle_word-middle.auto.rows
          (still_standing _ _ rows (length rows) one behind c.settle_rows-behind.auto.rows (none_standing rows) b) m;
    }

pub move_down-requires : goal.move_down-requires
move_down-requires c =
    let b = c.settle_rows-behind.ensures in
    let m = c.settle_word-middle.ensures in
    let t = c.settle_rows-start.ensures in
    omega (arith, b.place, m.place, t.place, c.settle_rows-behind.auto.rows, c.settle_word-middle.auto.rows, c.settle_rows-start.auto.rows)

pub returns : goal.returns
returns c =
    let rows = c.args.rows.now in
    let used = c.args.used in
    let word = c.args.word.list.now in
    let room = c.requires.room in
    let rs = take used rows in
    let n = length rows in
    let k = length-take-le used rows (omega arith) in
    let at = c.args.spot.at in
    let d = c.args.spot.depth in
    let s = c.requires.spotted in
    let one = c.settle_rows-behind.new.rows in
    let two = c.settle_word-middle.new.rows in
    let three = c.settle_rows-start.new.rows in
    let behind = c.settle_rows-behind.result in
    let middle = c.settle_word-middle.result in
    let start = c.settle_rows-start.result in
    let news = sprouts word d (length word - d) in
    let long : length three ≡ n = c.settle_rows-start.auto.rows ∙ c.settle_word-middle.auto.rows ∙ c.settle_rows-behind.auto.rows in
    let z : at - 0 ≡ at = omega arith in
    let some = length word - d + (used - at) in
    let fits : some + at ≤ n = omega (arith, s.within, c.args.word.short) in
    let back : news ++ drop at rs ≡ news ++ take (used - at) (drop at rows) = ap (λ y. news ++ y) (sym (between_is rows at used)) in
    let both : Settled some (news ++ drop at rs) rows n two middle =
    settled_then _ _ _ _ rows n one behind two middle some (news ++ drop at rs) (omega arith) back (omega (arith, fits)) c.settle_rows-behind.ensures c.settle_word-middle.ensures in
    let front : take (at - 0) two ≡ take at rs =
    ap (λ j. take j two) z ∙ fewer_kept rows two at (n - some) (omega (arith, fits)) both.same ∙ sym (take-take at used rows (omega (arith, s.within))) in
    let all = settled_then _ _ _ _ rows n two middle three start (at - 0 + some) (grown word rs at d) (omega arith) (ap (λ y. y ++ (news ++ drop at rs)) (sym front)) (omega (arith, fits)) both c.settle_rows-start.ensures in
    record {
      within = omega arith;
      items = (at, d, s, ap (λ j. take (j - start) c.move_down.new.rows) (sym long) ∙ c.move_down.ensures ∙ all.items ∙ ap (settled (grown word rs at d)) (drop_all n rows (omega arith)));
    }
