-- An array is of the type of the elements exactly where its type equals that.
use Rattle.vx_types.specs.Seen.{typ}
use Rattle.vx_arrays.specs.Lists.{element_of}
use Rattle.vx_arrays.proofs.ListViewed.{element_decides}
use Rattle.vx_arrays.proofs.encodings.list_view.is_element.Goals as goal

pub returns-in-Some : goal.returns-in-Some
returns-in-Some c =
    element_decides c.eq.result (typ c.in-Some.kind.now) (typ c.dtype.result.now) c.args.elements.now (element_of (typ c.args.dtype.now)) c.in-Some.ensures c.dtype.ensures.dtype c.eq.ensures
