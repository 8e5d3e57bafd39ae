-- The worked messages compute.
use Rattle.std.proofs.Common.{◌≡◌, Some, Bool, true, false, refl, lit≤, length}
use Rattle.vx_flat.specs.Schema.{struct_size, is_lawful}
use Rattle.vx_flat.specs.Places.{u16_at, u32_at, u64_at, behind, field_table, place_of, table_at, is_vector, is_text}
use Rattle.vx_flat.specs.Shows.{Shows}
use Rattle.vx_flat.specs.Weight.{weight, weight_within, table_weight}
use Rattle.vx_flat.specs.Reading.{shown_within, table_shown}
use Rattle.vx_flat.specs.Layout.{layout, bytes_of}
use Rattle.vx_flat_tests.specs.Worked.{array_schema, array_value, array_message, type_schema, type_value, type_message}
use Rattle.vx_flat_tests.specs.Worked.{nodes_value, nodes_message}
use Rattle.vx_flat.proofs.LawsOfMessages.{table_sound}

-- ---- the array

pub array_lawful : is_lawful array_schema ≡ true
array_lawful = refl

pub array_laid_out : (sharing : Bool) → layout sharing array_schema array_value ≡ array_message
unfolding bytes_of struct_size
array_laid_out true = refl
array_laid_out false = refl

array_read : table_shown array_schema array_message (u32_at array_message 0) 0 ≡ Some array_value
unfolding table_shown shown_within u16_at u32_at u64_at behind field_table place_of table_at is_vector is_text
    struct_size
array_read = refl

pub array_shown : Shows array_schema array_message array_value
array_shown = (lit≤ tt, table_sound array_schema array_message (u32_at array_message 0) 0 array_value array_read)

pub array_weighs : weight array_schema array_message ≡ record { nested = 3; tables = 3; bytes = 218 }
unfolding table_weight weight_within u16_at u32_at u64_at behind field_table place_of table_at is_vector is_text
    struct_size
array_weighs = refl

-- ---- the type

pub type_lawful : is_lawful type_schema ≡ true
type_lawful = refl

pub type_laid_out : (sharing : Bool) → layout sharing type_schema type_value ≡ type_message
unfolding bytes_of struct_size
type_laid_out true = refl
type_laid_out false = refl

type_read : table_shown type_schema type_message (u32_at type_message 0) 0 ≡ Some type_value
unfolding table_shown shown_within u16_at u32_at u64_at behind field_table place_of table_at is_vector is_text
    struct_size
type_read = refl

pub type_shown : Shows type_schema type_message type_value
type_shown = (lit≤ tt, table_sound type_schema type_message (u32_at type_message 0) 0 type_value type_read)

-- ---- two nodes

pub nodes_shared : layout true array_schema nodes_value ≡ nodes_message
unfolding bytes_of struct_size
nodes_shared = refl

pub nodes_plain : length (layout false array_schema nodes_value) ≡ 260
unfolding bytes_of struct_size
nodes_plain = refl
