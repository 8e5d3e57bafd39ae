-- The places of the children that are planned, and when there is no plan.
use Rattle.std.specs.Prelude.{◌≡◌, List, Option, None}
use Rattle.vx_types.specs.Seen.{typ}
use Rattle.vx_array_tree.specs.Place.{Place, place}
use Rattle.vx_plans.specs.declared.error.EncodingError.{EncodingError}
use Rattle.vx_plans.specs.declared.error.EncodingError.TheVariants.{OutOfMemory, BadMetadata, BadShape, BadContent, ForeignControl, WireLimit}
use Rattle.vx_plans.specs.declared.plans.ChildPlan.{ChildPlan}

-- The place that a planned child is to have.
abbrev pub planned_place : ChildPlan → Place
planned_place p = place (typ p.dtype) p.len

-- There is no such plan, or allocation failed.
abbrev pub RefusesPlaces : EncodingError → Option (List Place) → Type 0
RefusesPlaces OutOfMemory plan = Unit {0}
RefusesPlaces BadMetadata plan = ⊥
RefusesPlaces BadShape plan = plan ≡ None
RefusesPlaces BadContent plan = ⊥
RefusesPlaces ForeignControl plan = ⊥
RefusesPlaces WireLimit plan = ⊥
