-- How contexts grow.
use Rattle.std.specs.Prelude.{ℕ, ◌≡◌, List, [], ◌∷◌, Option, Some, None, codes, refl}
use Rattle.vx_types.specs.declared.nullability.Nullability.TheVariants.{Nullable}
use Rattle.vx_array_tree_tests.proofs.Samples.{flags, numbers}
use Rattle.vx_wire_tree.specs.Codec.{Codec}
use Rattle.vx_wire_tree.specs.Context.{Context, index_of, interned, grown_by, grown}
use Rattle.vx_wire_tree.specs.Session.{SessionMeaning}

abbrev context : List (List ℕ) → Option (List (List ℕ)) → Context
context ids allowed = record { ids = ids; allowed = allowed }

-- A new identifier goes last; one that is there changes nothing.
new_id : interned (codes "b") (context (codes "a" ∷ []) None) ≡ Some (context (codes "a" ∷ codes "b" ∷ []) None)
new_id = refl

known_id : interned (codes "a") (context (codes "a" ∷ []) None) ≡ Some (context (codes "a" ∷ []) None)
known_id = refl

-- An identifier that is not allowed is refused.
refused_id : interned (codes "vortex.primitive") (context [] (Some (codes "vortex.bool" ∷ []))) ≡ None
refused_id = refl

allowed_id : interned (codes "vortex.bool") (context [] (Some (codes "vortex.bool" ∷ []))) ≡ Some (context (codes "vortex.bool" ∷ []) (Some (codes "vortex.bool" ∷ [])))
allowed_id = refl

-- Identifiers that occur more than once are numbered once.
repeated_ids : grown_by (codes "a" ∷ codes "b" ∷ codes "a" ∷ []) (context [] None) ≡ Some (context (codes "a" ∷ codes "b" ∷ []) None)
repeated_ids = refl

-- One refusal refuses all.
some_refused : grown_by (codes "a" ∷ codes "b" ∷ []) (context [] (Some (codes "a" ∷ []))) ≡ None
some_refused = refl

second_index : index_of (codes "b") (codes "a" ∷ codes "b" ∷ codes "b" ∷ []) ≡ 1
second_index = refl

-- Numbers with a validity name two encodings.
numbers_grow : (c : Codec) (s : SessionMeaning) → grown c s (context (codes "a" ∷ []) None) numbers ≡ Some (context (codes "a" ∷ codes "vortex.primitive" ∷ codes "vortex.bool" ∷ []) None)
numbers_grow c s = refl

-- Booleans with a validity name one encoding, once.
flags_grow : (c : Codec) (s : SessionMeaning) → grown c s (context [] None) (flags Nullable) ≡ Some (context (codes "vortex.bool" ∷ []) None)
flags_grow c s = refl
