-- What contracts see of the parts of types.
use Rattle.std.specs.Prelude.{ℕ, Bool, List, ◌+◌, ◌*◌, refl}
use Rattle.std.specs.Coded.{Coded, code_by, coded×, coded_bool, coded_list}
use Rattle.vx_trees.specs.Rose.{roses_of}
use Rattle.vx_trees.specs.Walks.{nodes, nodes_of}
use Rattle.vx_types.specs.Kind.{coded_bytes}
use Rattle.vx_types.specs.Typ.{Typ, typ_code}

-- The names of a structure's fields, and their types in the same order.
pub record Fields : Type 0 where
  pub names : List (List ℕ)
  pub types : List Typ

-- The names of a union's members, and their types and tags in the same order.
pub record Members : Type 0 where
  pub names : List (List ℕ)
  pub types : List Typ
  pub ids : List ℕ

-- The types of a map's keys and values, and whether the keys are sorted.
pub record Entries : Type 0 where
  pub key : Typ
  pub value : Typ
  pub keys_sorted : Bool

-- An extension's identifier, its metadata and the type of its storage.
pub record Ext : Type 0 where
  pub id : List ℕ
  pub metadata : List ℕ
  pub storage : Typ

-- The codes of these records, by their fields.
abbrev pub fields_code : Coded Fields
fields_code =
    code_by (List (List ℕ) × List Typ) (coded× (coded_list coded_bytes) (coded_list typ_code))
    (λ f. (f.names, f.types)) (λ p. record { names = p.0; types = p.1 }) (λ _. refl)

abbrev pub members_code : Coded Members
members_code =
    code_by (List (List ℕ) × (List Typ × List ℕ)) (coded× (coded_list coded_bytes) (coded× (coded_list typ_code) coded_bytes))
    (λ v. (v.names, (v.types, v.ids))) (λ p. record { names = p.0; types = p.1.0; ids = p.1.1 }) (λ _. refl)

abbrev pub entries_code : Coded Entries
entries_code =
    code_by (Typ × (Typ × Bool)) (coded× typ_code (coded× typ_code coded_bool))
    (λ m. (m.key, (m.value, m.keys_sorted))) (λ p. record { key = p.0; value = p.1.0; keys_sorted = p.1.1 }) (λ _. refl)

abbrev pub ext_code : Coded Ext
ext_code =
    code_by (List ℕ × (List ℕ × Typ)) (coded× coded_bytes (coded× coded_bytes typ_code))
    (λ x. (x.id, (x.metadata, x.storage))) (λ p. record { id = p.0; metadata = p.1.0; storage = p.1.1 }) (λ _. refl)

-- Sizes for recursion: four times the number of nodes, so that each part has a size
-- between that of a type and those of the types within it.
abbrev pub typ_size : Typ → ℕ
typ_size t = 4 * nodes t

abbrev pub ref_size : Typ → ℕ
ref_size t = 4 * nodes t + 1

abbrev pub slice_size : List Typ → ℕ
slice_size ts = 4 * nodes_of (roses_of ts) + 1

abbrev pub types_size : List Typ → ℕ
types_size ts = 4 * nodes_of (roses_of ts) + 2

abbrev pub fields_size : Fields → ℕ
fields_size f = 4 * nodes_of (roses_of f.types) + 3

abbrev pub members_size : Members → ℕ
members_size v = 4 * nodes_of (roses_of v.types) + 3

abbrev pub entries_size : Entries → ℕ
entries_size m = 4 * nodes m.key + 4 * nodes m.value + 2

abbrev pub ext_size : Ext → ℕ
ext_size x = 4 * nodes x.storage + 2
