-- A table that was written is a message that can be finished.
use Rattle.std.proofs.Common.{◌≡◌, ◌∙◌, ◌<◌, List, None, ap, sym, subst}
use Rattle.vx_flat.specs.declared.schema.FieldKind.{FieldKind}
use Rattle.vx_flat.specs.Building.{Built, Written}
use Rattle.vx_flat.specs.Pieces.{entries, fields_pieces, table_piece}
use Rattle.vx_flat.specs.Schema.{Schema}
use Rattle.vx_flat.specs.Value.{Fields}
use Rattle.vx_flat.proofs.LawsOfBuilding.{count-with_pieces, waits-with_pieces}

module _ (s : Schema) (ks : List FieldKind) (vs : Fields) (old new : Built) (w : Written s ks vs old new) where
  -- There are blocks, and no link waits.
  pub some_built : 0 < new.count
  some_built = subst (λ (b : Built). 0 < b.count) (sym w.blocks) (count-with_pieces old (table_piece (entries ks vs)) (fields_pieces s ks vs))

  pub idle_built : new.waits ≡ None
  idle_built = ap (λ (b : Built). b.waits) w.blocks ∙ waits-with_pieces old (table_piece (entries ks vs)) (fields_pieces s ks vs)
