use Rattle.std.proofs.Common.{sym, subst}
use Rattle.vx_trees.proofs.Lists.{count-roses_of}
use Rattle.vx_types.specs.Seen.{typ}
use Rattle.vx_types.specs.Typ.{IsType, IsStructure, IsUnion}
use Rattle.vx_types.proofs.dtype.DType.levels.Goals as goal

pub returns-in-Struct-clause-is_type : goal.returns-in-Struct-clause-is_type
returns-in-Struct-clause-is_type c =
    let fields = c.in-Struct.fields in
    let told = c.levels-in-Struct.ensures in
    subst (λ d. IsType (typ d)) (sym c.in-Struct.is)
    (subst (λ n. IsStructure fields.names n) (sym (count-roses_of fields.types)) told.structure, told.types)

pub returns-in-Union-clause-is_type : goal.returns-in-Union-clause-is_type
returns-in-Union-clause-is_type c =
    let members = c.in-Union.members in
    let told = c.levels-in-Union.ensures in
    subst (λ d. IsType (typ d)) (sym c.in-Union.is)
    (subst (λ n. IsUnion members.names members.ids n) (sym (count-roses_of members.types)) told.union, told.types)
