-- What an option that stands was made of.
use Rattle.std.proofs.Common.{◌≡◌, Option, Some, None, option_map, refl, Bool, true, false}
use Rattle.vx_array_tree.specs.Place.{when}

module _ {A B : Type 0} where
  pub mapped : (f : A → B) (o : Option A) (b : B) → option_map f o ≡ Some b → (x : A) × (b ≡ f x) × (o ≡ Some x)
  mapped f None b e = absurd (cc)
  mapped f (Some x) b e = let q : b ≡ f x = cc in (x, q, refl)

module _ {A : Type 0} where
  pub let_through : (t : Bool) (o : Option A) (x : A) → when t o ≡ Some x → o ≡ Some x
  let_through true o x e = e
  let_through false o x e = absurd (cc)
