use Rattle.std.proofs.Common.{◌∷◌, map, drop, length, string_bytes}
use Rattle.vx_flat.specs.declared.builder.piece.LinkKind.TheVariants as link
use Rattle.vx_flat.specs.Building.{with_rest}
use Rattle.vx_flat.specs.Pieces.{links_piece, text_piece}
use Rattle.vx_flat.proofs.Walking.{Walked}
use Rattle.vx_flat.proofs.writing.walking.write_texts.Given as goal

abbrev pub invariant-loop-text : goal.invariant-loop-text
invariant-loop-text l =
    Walked l.builder (map text_piece (map string_bytes (drop l.text-index l.texts)))
    (with_rest l.fn.builder (links_piece link.Text (length l.texts) ∷ map text_piece (map string_bytes l.texts)))
