-- One code more is judged.
use Rattle.std.proofs.Common.{ℕ, ◌∷◌, []}
use Rattle.vx_array_tree.specs.Encodings.Dicts.{IsCode}
use Rattle.vx_array_tree.specs.Rows.{IsThere}
use Rattle.vx_array_tree.specs.Tree.{rows_of}
use Rattle.vx_arrays.proofs.Dictionaries.{one_more}
use Rattle.vx_arrays.proofs.encodings.dict.are_codes.Goals as goal

pub loop-i-preserved : goal.loop-i-preserved
loop-i-preserved c =
    let rs = rows_of c.args.codes.now ∷ rows_of c.args.values.now ∷ [] in
    one_more (λ (k : ℕ). IsThere (rows_of c.args.codes.now).valid k → IsCode rs k) c.loop-i.i c.loop-i.invariant (c.is_code.ensures.0 c.if-not-is_code.false)
