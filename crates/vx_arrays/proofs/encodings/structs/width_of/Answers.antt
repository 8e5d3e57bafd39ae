use Rattle.std.proofs.Common.{List, ◌∙◌, sym, ap, length}
use Rattle.vx_trees.proofs.Lists.{count-roses_of}
use Rattle.vx_types.specs.Seen.{typ}
use Rattle.vx_types.specs.Typ.{Typ}
use Rattle.vx_types.specs.declared.dtype.DType.{DType}
use Rattle.vx_array_tree.specs.Encodings.Structs.{width_of}
use Rattle.vx_arrays.proofs.encodings.structs.width_of.Goals as goal

pub returns : goal.returns
returns c =
    c.len.ensures.len ∙ ap (λ (ds : List Typ). length ds) c.fields.ensures ∙ sym (count-roses_of c.in-Struct.fields.types) ∙ ap (λ (d : DType). width_of (typ d)) (sym c.in-Struct.is)
