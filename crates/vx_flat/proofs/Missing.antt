-- What an absent field has, by its kind.
use Rattle.std.proofs.Common.{◌≡◌, ℕ, Bool, true, false, not, Option, Some, None, IsSome, refl, ap, ◌∙◌}
use Rattle.std.specs.Prelude.{is_some}
use Rattle.vx_flat.specs.declared.schema.FieldKind.{FieldKind}
use Rattle.vx_flat.specs.declared.schema.FieldKind.TheVariants.{Number, OptNumber, Flag, OptFlag}
use Rattle.vx_flat.specs.declared.schema.FieldKind.TheVariants.{Vector, Structs, Text, Texts, Table}
use Rattle.vx_flat.specs.declared.schema.FieldKind.TheVariants.{Tables}
use Rattle.vx_flat.specs.Parts.{IsPlain, IsNumber, IsFlag, IsOptional, IsBytes, IsText, IsTable, IsVector}
use Rattle.vx_flat.specs.Reading.{absent_shown}
use Rattle.vx_flat.specs.Value.{Field, absent, number}

-- The field has what an absent one of its kind has.
abbrev pub IsMissing : Option FieldKind → Field → Type 0
IsMissing o f = (k : FieldKind) → o ≡ Some k → IsPlain k → f ≡ absent_shown k

pub no_number : (o : Option FieldKind) (f : Field) → IsNumber o → IsMissing o f → f ≡ number 0
no_number (Some (Number w)) f is h = h (Number w) refl tt
no_number _ f is h = absurd is

pub no_flag : (o : Option FieldKind) (f : Field) → IsFlag o → IsMissing o f → f ≡ number 0
no_flag (Some Flag) f is h = h Flag refl tt
no_flag _ f is h = absurd is

pub no_optional : (o : Option FieldKind) (f : Field) → IsOptional o → IsMissing o f → f ≡ absent
no_optional (Some (OptNumber w)) f is h = h (OptNumber w) refl tt
no_optional (Some OptFlag) f is h = h OptFlag refl tt
no_optional _ f is h = absurd is

pub no_bytes : (o : Option FieldKind) (f : Field) → IsBytes o → IsMissing o f → f ≡ absent
no_bytes (Some (Vector w)) f is h = h (Vector w) refl tt
no_bytes (Some (Structs n)) f is h = h (Structs n) refl tt
no_bytes _ f is h = absurd is

pub no_text : (o : Option FieldKind) (f : Field) → IsText o → IsMissing o f → f ≡ absent
no_text (Some Text) f is h = h Text refl tt
no_text _ f is h = absurd is

pub no_table : (o : Option FieldKind) (f : Field) → IsTable o → IsMissing o f → f ≡ absent
no_table (Some (Table T)) f is h = h (Table T) refl tt
no_table _ f is h = absurd is

pub no_vector : (o : Option FieldKind) (f : Field) → IsVector o → IsMissing o f → f ≡ absent
no_vector (Some (Vector w)) f is h = h (Vector w) refl tt
no_vector (Some (Structs n)) f is h = h (Structs n) refl tt
no_vector (Some Texts) f is h = h Texts refl tt
no_vector (Some (Tables T)) f is h = h (Tables T) refl tt
no_vector _ f is h = absurd is

pub there_is : (o : Option ℕ) (none : Bool) → is_some o ≡ not none → none ≡ false → IsSome o
there_is o none is h = is ∙ ap not h

pub none_is : (o : Option ℕ) (none : Bool) → is_some o ≡ not none → none ≡ true → o ≡ None
none_is None none is h = refl
none_is (Some p) none is h = let e : true ≡ false = is ∙ ap not h in absurd cc
