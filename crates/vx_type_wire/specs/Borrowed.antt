-- The meaning of readers that are borrowed, where it is given what each accepts.
use Rattle.std.specs.Prelude.{ℕ, Bool, List, Option, Some, None, map, bytes_eq}
use Rattle.std.specs.Map.{lookup}
use Rattle.vx_types.specs.Known.{ExtMeaning}
use Rattle.vx_types.specs.Typ.{Typ}
use Rattle.vx_type_wire.specs.declared.lending.BorrowedReader.{BorrowedReader}
use Rattle.vx_type_wire.specs.declared.lending.ReadersOf.{ReadersOf}

-- What readers accept, each under its identifier.
abbrev pub borrowed_entries : {R : Type 0} → (R → List ℕ → Typ → Bool) → List (BorrowedReader R) → List (List ℕ × (List ℕ → Typ → Bool))
borrowed_entries accepted entries = map (λ e. (e.id.now, accepted e.reader)) entries

-- Each identifier has the first reader under it, and what that reader accepts.
abbrev pub borrowed_meaning : {R : Type 0} → (R → List ℕ → Typ → Bool) → ReadersOf R → ExtMeaning
borrowed_meaning accepted s = record {
  reader = λ id. lookup (bytes_eq id) (borrowed_entries accepted s.entries.items);
  unknown = s.unknown;
}

-- Whether an extension is accepted by a reader, or has none and such ones are allowed.
abbrev pub accepts_with : Option (List ℕ → Typ → Bool) → Bool → List ℕ → Typ → Bool
accepts_with (Some accepts) unknown metadata storage = accepts metadata storage
accepts_with None unknown metadata storage = unknown

-- The same by its identifier.
abbrev pub accepts_by : ExtMeaning → List ℕ → List ℕ → Typ → Bool
accepts_by s id metadata storage = accepts_with (s.reader id) s.unknown metadata storage
