-- What the plugin of tests gives.
use Rattle.std.specs.Prelude.{ℕ, true, false, List, [], ◌∷◌, Option, Some, None}
use Rattle.vx_fn_wire.specs.declared.arity.Arity.TheVariants.{Exact}
use Rattle.vx_fn_wire.specs.declared.scalar_fn.ScalarFn.{ScalarFn}

-- A function of two children with the metadata as its options; none of empty metadata.
abbrev pub pairing_of : List ℕ → List ℕ → Option ScalarFn
pairing_of id [] = None
pairing_of id (b ∷ bs) = Some (record { id = id; options = Some (b ∷ bs); text = []; arity = Exact 2; child_names = []; strict = true; infallible = false })
