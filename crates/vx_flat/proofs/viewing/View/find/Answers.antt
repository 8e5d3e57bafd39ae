use Rattle.std.proofs.Common.{arith}
use Rattle.vx_flat.proofs.Seeing.{view_inline, part_absent, part_shown, part_lies, part_later}
use Rattle.vx_flat.proofs.viewing.View.find.Goals as goal

pub place_of-requires-clause-lies : goal.place_of-requires-clause-lies
place_of-requires-clause-lies c = (view_inline c.args.self.now).0

pub place_of-requires-clause-here : goal.place_of-requires-clause-here
place_of-requires-clause-here c = let h = (view_inline c.args.self.now).1 in omega (arith, h)

pub returns : goal.returns
returns c =
    let v = c.args.self.now in
    let e = c.args.field in
    let k = c.args.kind in
    let o = c.place_of.result in
    record {
      absent = part_absent v e k c.requires.kind c.requires.plain o c.place_of.ensures;
      lies = part_lies v e k c.requires.kind c.requires.plain o c.place_of.ensures;
      later = part_later v e o c.place_of.ensures;
      shown = part_shown v e k c.requires.kind c.requires.plain o c.place_of.ensures;
    }
