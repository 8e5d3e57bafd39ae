use Rattle.std.proofs.Common.{arith}
use Rattle.vx_types.proofs.Lists.{typs-levels_push}
use Rattle.vx_types.proofs.Trees.{types-push}
use Rattle.vx_types.proofs.type_list.TypeList.push.Goals as goal

pub invariant_of-self-2 : goal.invariant_of-self-2
invariant_of-self-2 c =
    let more = c.in_ok-push.ensures.items in (
      types-push _ _ _ c.self.invariant.0 c.levels.ensures.is_type more,
      omega (arith, typs-levels_push _ _ _ more, c.self.invariant.1, c.levels.ensures.levels, c.deeper-depth.ensures),
    )
