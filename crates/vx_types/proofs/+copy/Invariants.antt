use Rattle.std.proofs.Common.{◌≡◌, take}
use Rattle.vx_types.specs.Parts.{typ_size, ref_size, slice_size, types_size, fields_size, members_size, entries_size, ext_size}
use Rattle.vx_types.specs.Seen.{typ, typs}
use Rattle.vx_types.proofs.+copy.Given as goal

abbrev pub decreases-dtype::DType::clone : goal.decreases-dtype::DType::clone
decreases-dtype::DType::clone l = typ_size (typ l.self.now)

abbrev pub decreases-type_ref::TypeRef::clone : goal.decreases-type_ref::TypeRef::clone
decreases-type_ref::TypeRef::clone l = ref_size l.self.now

abbrev pub decreases-copy::copy_all : goal.decreases-copy::copy_all
decreases-copy::copy_all l = slice_size (typs l.types.now)

abbrev pub decreases-dtypes::DTypes::clone : goal.decreases-dtypes::DTypes::clone
decreases-dtypes::DTypes::clone l = types_size l.self.now

abbrev pub decreases-struct_fields::StructFields::clone : goal.decreases-struct_fields::StructFields::clone
decreases-struct_fields::StructFields::clone l = fields_size l.self.now

abbrev pub decreases-union_variants::UnionVariants::clone : goal.decreases-union_variants::UnionVariants::clone
decreases-union_variants::UnionVariants::clone l = members_size l.self.now

abbrev pub decreases-map::MapDType::clone : goal.decreases-map::MapDType::clone
decreases-map::MapDType::clone l = entries_size l.self.now

abbrev pub decreases-ext::ExtDType::clone : goal.decreases-ext::ExtDType::clone
decreases-ext::ExtDType::clone l = ext_size l.self.now

abbrev pub invariant-copy::copy_all-loop-dtype : goal.invariant-copy::copy_all-loop-dtype
invariant-copy::copy_all-loop-dtype l = l.copies.items ≡ take l.dtype-index l.types
