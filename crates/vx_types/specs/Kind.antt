-- A type's own part, without the types within it.
use Rattle.std.specs.Prelude.{ℕ, ℤ, Bool, List, ◌≡◌, ◌⊎◌, refl}
use Rattle.std.specs.Coded.{Coded, code_by, coded×, coded⊎, coded_ℕ, coded_ℤ, coded_bool, coded_list}
use mathlib.Core.Logic.{inl, inr}
use base.Stored.{coded_unit}
use Rattle.vx_types.specs.declared.nullability.Nullability.{Nullability}
use Rattle.vx_numbers.specs.declared.ptype.PType.{PType}
use Rattle.vx_types.specs.contracts.nullability.Nullability as nullability
use Rattle.vx_numbers.specs.contracts.ptype.PType as ptype

-- Each kind but the first and the last has a nullability. Beside that a number has its
-- kind, a decimal its precision and scale, a fixed-size list its size, a structure the
-- names of its fields, a union the names and tags of its members, a map whether its
-- keys are sorted, and an extension its identifier and metadata.
pub data Kind : Type 0 where
  null : Kind
  boolean : Nullability → Kind
  primitive : PType → Nullability → Kind
  decimal : ℕ → ℤ → Nullability → Kind
  utf8 : Nullability → Kind
  binary : Nullability → Kind
  list : Nullability → Kind
  fixed_size_list : ℕ → Nullability → Kind
  structure : List (List ℕ) → Nullability → Kind
  union : List (List ℕ) → List ℕ → Nullability → Kind
  map : Bool → Nullability → Kind
  variant : Nullability → Kind
  extension : List ℕ → List ℕ → Kind

-- The code of a kind: its constructor, and the arguments of that.
abbrev Stored : Type 0
Stored =
    Unit {0} ⊎ (Nullability ⊎ ((PType × Nullability) ⊎ ((ℕ × (ℤ × Nullability)) ⊎ (Nullability ⊎ (Nullability ⊎ (Nullability ⊎ ((ℕ × Nullability)
    ⊎ ((List (List ℕ) × Nullability) ⊎ ((List (List ℕ) × (List ℕ × Nullability)) ⊎ ((Bool × Nullability) ⊎ (Nullability ⊎ (List ℕ × List ℕ))))))))))))

abbrev stored : Kind → Stored
stored null = inl tt
stored (boolean n) = inr (inl n)
stored (primitive p n) = inr (inr (inl (p, n)))
stored (decimal p s n) = inr (inr (inr (inl (p, (s, n)))))
stored (utf8 n) = inr (inr (inr (inr (inl n))))
stored (binary n) = inr (inr (inr (inr (inr (inl n)))))
stored (list n) = inr (inr (inr (inr (inr (inr (inl n))))))
stored (fixed_size_list k n) = inr (inr (inr (inr (inr (inr (inr (inl (k, n))))))))
stored (structure ns n) = inr (inr (inr (inr (inr (inr (inr (inr (inl (ns, n)))))))))
stored (union ns ids n) = inr (inr (inr (inr (inr (inr (inr (inr (inr (inl (ns, (ids, n)))))))))))
stored (map b n) = inr (inr (inr (inr (inr (inr (inr (inr (inr (inr (inl (b, n)))))))))))
stored (variant n) = inr (inr (inr (inr (inr (inr (inr (inr (inr (inr (inr (inl n)))))))))))
stored (extension id bs) = inr (inr (inr (inr (inr (inr (inr (inr (inr (inr (inr (inr (id, bs))))))))))))

abbrev restored : Stored → Kind
restored (inl _) = null
restored (inr (inl n)) = boolean n
restored (inr (inr (inl p))) = primitive p.0 p.1
restored (inr (inr (inr (inl p)))) = decimal p.0 p.1.0 p.1.1
restored (inr (inr (inr (inr (inl n))))) = utf8 n
restored (inr (inr (inr (inr (inr (inl n)))))) = binary n
restored (inr (inr (inr (inr (inr (inr (inl n))))))) = list n
restored (inr (inr (inr (inr (inr (inr (inr (inl p)))))))) = fixed_size_list p.0 p.1
restored (inr (inr (inr (inr (inr (inr (inr (inr (inl p))))))))) = structure p.0 p.1
restored (inr (inr (inr (inr (inr (inr (inr (inr (inr (inl p)))))))))) = union p.0 p.1.0 p.1.1
restored (inr (inr (inr (inr (inr (inr (inr (inr (inr (inr (inl p))))))))))) = map p.0 p.1
restored (inr (inr (inr (inr (inr (inr (inr (inr (inr (inr (inr (inl n)))))))))))) = variant n
restored (inr (inr (inr (inr (inr (inr (inr (inr (inr (inr (inr (inr p)))))))))))) = extension p.0 p.1

pub restored-stored : (k : Kind) → restored (stored k) ≡ k
restored-stored null = refl
restored-stored (boolean n) = refl
restored-stored (primitive p n) = refl
restored-stored (decimal p s n) = refl
restored-stored (utf8 n) = refl
restored-stored (binary n) = refl
restored-stored (list n) = refl
restored-stored (fixed_size_list k n) = refl
restored-stored (structure ns n) = refl
restored-stored (union ns ids n) = refl
restored-stored (map b n) = refl
restored-stored (variant n) = refl
restored-stored (extension id bs) = refl

abbrev coded_nullability : Coded Nullability
coded_nullability = nullability.the_row.coded

abbrev pub coded_bytes : Coded (List ℕ)
coded_bytes = coded_list coded_ℕ

-- The code of kinds, which decides their equality.
abbrev pub kind_code : Coded Kind
kind_code =
    code_by Stored (coded⊎ coded_unit (coded⊎ coded_nullability (coded⊎ (coded× ptype.the_row.coded coded_nullability) (coded⊎ (coded× coded_ℕ (coded× coded_ℤ coded_nullability))
    (coded⊎ coded_nullability (coded⊎ coded_nullability (coded⊎ coded_nullability (coded⊎ (coded× coded_ℕ coded_nullability) (coded⊎ (coded× (coded_list coded_bytes) coded_nullability)
    (coded⊎ (coded× (coded_list coded_bytes) (coded× coded_bytes coded_nullability)) (coded⊎ (coded× coded_bool coded_nullability) (coded⊎ coded_nullability (coded× coded_bytes coded_bytes)))))))))))))
    stored restored restored-stored
