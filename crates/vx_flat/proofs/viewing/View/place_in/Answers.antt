use Rattle.std.proofs.Common.{arith, sym, ◌∙◌, Some}
use Rattle.vx_flat.proofs.Seeing.{view_inline, part_shown, part_lies, part_later}
use Rattle.vx_flat.proofs.viewing.View.place_in.Goals as goal

pub place_of-requires-clause-lies : goal.place_of-requires-clause-lies
place_of-requires-clause-lies c = (view_inline c.args.self.now).0

pub place_of-requires-clause-here : goal.place_of-requires-clause-here
place_of-requires-clause-here c = let h = (view_inline c.args.self.now).1 in omega (arith, h)

pub returns : goal.returns
returns c =
    let v = c.args.self.now in
    let at = sym c.in-Some.is ∙ c.place_of.ensures in
    record {
      lies = part_lies v c.args.field c.args.kind c.requires.kind c.requires.plain (Some c.in-Some.place) at;
      later = part_later v c.args.field (Some c.in-Some.place) at;
      shown = part_shown v c.args.field c.args.kind c.requires.kind c.requires.plain (Some c.in-Some.place) at;
    }
