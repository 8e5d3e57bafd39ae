-- A row of a dictionary is there where its code and the value that this names are.
use Rattle.std.proofs.Common.{arith, ap, sym, ◌∙◌, List}
use Rattle.vx_trees.specs.Rose.{roses_of}
use Rattle.vx_types.specs.Seen.{typ}
use Rattle.vx_array_tree.specs.Tree.{Tree}
use Rattle.vx_arrays.proofs.Dictionaries.{IsDict, dict_of, named_valid, named_within}
use Rattle.vx_arrays.proofs.array.Array.+is_valid.Goals as goal

pub is_valid-requires-in-Some : goal.is_valid-requires-in-Some
is_valid-requires-in-Some t c =
    let a : IsDict c.args.self.now c.pair_in.result.0.now c.pair_in.result.1.now =
    dict_of (typ c.self.inside.dtype) c.self.inside.len c.self.inside.stats c.self.inside.body c.in-Dict.flag (roses_of c.self.inside.children.items) c.args.self.now c.pair_in.result.0.now c.pair_in.result.1.now
    c.in-Dict.is c.self.view_is c.self.invariant.0 (ap (λ (us : List Tree). roses_of us) (sym c.as_slice-children.ensures.value) ∙ c.pair_in.ensures.pair) in
    (omega (arith, a.values_smaller), named_within c.args.self.now c.pair_in.result.0.now c.pair_in.result.1.now a c.args.index c.in-Some.code (sym c.in-Some.is ∙ c.natural_at.ensures) c.requires)

pub returns-in-Some : goal.returns-in-Some
returns-in-Some t c =
    let a : IsDict c.args.self.now c.pair_in.result.0.now c.pair_in.result.1.now =
    dict_of (typ c.self.inside.dtype) c.self.inside.len c.self.inside.stats c.self.inside.body c.in-Dict.flag (roses_of c.self.inside.children.items) c.args.self.now c.pair_in.result.0.now c.pair_in.result.1.now
    c.in-Dict.is c.self.view_is c.self.invariant.0 (ap (λ (us : List Tree). roses_of us) (sym c.as_slice-children.ensures.value) ∙ c.pair_in.ensures.pair) in
    c.is_valid-in-Some.ensures ∙ named_valid c.args.self.now c.pair_in.result.0.now c.pair_in.result.1.now a c.args.index c.in-Some.code (sym c.in-Some.is ∙ c.natural_at.ensures)
