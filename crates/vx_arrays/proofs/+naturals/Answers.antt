-- Control rows, as flags and as natural numbers.
use Rattle.std.proofs.Common.{arith, ap, sym, ◌∙◌, List, Some}
use Rattle.vx_trees.specs.Rose.{label, roses_of}
use Rattle.vx_types.specs.Value.{flag_in}
use Rattle.vx_array_tree.specs.Tree.{Tree, row_at}
use Rattle.vx_types.specs.Seen.{typ}
use Rattle.vx_types.specs.Value.{Value, natural}
use Rattle.vx_arrays.proofs.Dictionaries.{IsDict, dict_of, named_row, named_within, unnamed_flag, unnamed_natural, values_flags}
use Rattle.vx_arrays.proofs.Flags.{flag_row}
use Rattle.vx_arrays.proofs.VariantNodes.{flag_of, natural_of}
use Rattle.vx_arrays.proofs.+naturals.Goals as goal

pub array::Array::flag_at-returns-in-Bool : goal.array::Array::flag_at-returns-in-Bool
array::Array::flag_at-returns-in-Bool t c =
    ap (λ b. Some b) c.bit.ensures
    ∙ flag_row _ _ c.args.index _ c.self.inside.body c.in-Bool.flags (roses_of c.self.inside.children.items) c.in-Bool.is (ap (λ (t : Tree). (label t).dtype) c.self.view_is ∙ c.requires.flags) c.self.invariant.0
    ∙ ap (λ (t : Tree). flag_in (row_at t c.args.index)) c.self.view_is

-- ---- dictionaries

pub array::Array::flag_at-flag_at-requires : goal.array::Array::flag_at-flag_at-requires
array::Array::flag_at-flag_at-requires t c =
    let a : IsDict c.args.self.now c.pair_in.result.0.now c.pair_in.result.1.now =
    dict_of (typ c.self.inside.dtype) c.self.inside.len c.self.inside.stats c.self.inside.body c.in-Dict.flag (roses_of c.self.inside.children.items) c.args.self.now c.pair_in.result.0.now c.pair_in.result.1.now
    c.in-Dict.is c.self.view_is c.self.invariant.0 (ap (λ (us : List Tree). roses_of us) (sym c.as_slice-children.ensures.value) ∙ c.pair_in.ensures.pair) in
    (omega (arith, a.values_smaller), (named_within c.args.self.now c.pair_in.result.0.now c.pair_in.result.1.now a c.args.index c.in-Some.code (sym c.in-Some.is ∙ c.natural_at.ensures) c.requires.inside, values_flags c.args.self.now c.pair_in.result.0.now c.pair_in.result.1.now a c.requires.flags))

pub array::Array::flag_at-returns-in-Some : goal.array::Array::flag_at-returns-in-Some
array::Array::flag_at-returns-in-Some t c =
    let a : IsDict c.args.self.now c.pair_in.result.0.now c.pair_in.result.1.now =
    dict_of (typ c.self.inside.dtype) c.self.inside.len c.self.inside.stats c.self.inside.body c.in-Dict.flag (roses_of c.self.inside.children.items) c.args.self.now c.pair_in.result.0.now c.pair_in.result.1.now
    c.in-Dict.is c.self.view_is c.self.invariant.0 (ap (λ (us : List Tree). roses_of us) (sym c.as_slice-children.ensures.value) ∙ c.pair_in.ensures.pair) in
    c.flag_at.ensures ∙ ap (λ (w : Value). flag_in w) (named_row c.args.self.now c.pair_in.result.0.now c.pair_in.result.1.now a c.args.index c.in-Some.code (sym c.in-Some.is ∙ c.natural_at.ensures))

pub array::Array::flag_at-returns-in-None : goal.array::Array::flag_at-returns-in-None
array::Array::flag_at-returns-in-None t c =
    let a : IsDict c.args.self.now c.pair_in.result.0.now c.pair_in.result.1.now =
    dict_of (typ c.self.inside.dtype) c.self.inside.len c.self.inside.stats c.self.inside.body c.in-Dict.flag (roses_of c.self.inside.children.items) c.args.self.now c.pair_in.result.0.now c.pair_in.result.1.now
    c.in-Dict.is c.self.view_is c.self.invariant.0 (ap (λ (us : List Tree). roses_of us) (sym c.as_slice-children.ensures.value) ∙ c.pair_in.ensures.pair) in
    unnamed_flag c.args.self.now c.pair_in.result.0.now c.pair_in.result.1.now a c.args.index c.requires.inside (sym c.in-None.is ∙ c.natural_at.ensures)

pub array::Array::natural_at-natural_at-requires-in-Some : goal.array::Array::natural_at-natural_at-requires-in-Some
array::Array::natural_at-natural_at-requires-in-Some t c =
    let a : IsDict c.args.self.now c.pair_in.result.0.now c.pair_in.result.1.now =
    dict_of (typ c.self.inside.dtype) c.self.inside.len c.self.inside.stats c.self.inside.body c.in-Dict.flag (roses_of c.self.inside.children.items) c.args.self.now c.pair_in.result.0.now c.pair_in.result.1.now
    c.in-Dict.is c.self.view_is c.self.invariant.0 (ap (λ (us : List Tree). roses_of us) (sym c.as_slice-children.ensures.value) ∙ c.pair_in.ensures.pair) in
    (omega (arith, a.values_smaller), named_within c.args.self.now c.pair_in.result.0.now c.pair_in.result.1.now a c.args.index c.in-Some.code (sym c.in-Some.is ∙ c.natural_at-in-Dict.ensures) c.requires)

pub array::Array::natural_at-returns-in-Some : goal.array::Array::natural_at-returns-in-Some
array::Array::natural_at-returns-in-Some t c =
    let a : IsDict c.args.self.now c.pair_in.result.0.now c.pair_in.result.1.now =
    dict_of (typ c.self.inside.dtype) c.self.inside.len c.self.inside.stats c.self.inside.body c.in-Dict.flag (roses_of c.self.inside.children.items) c.args.self.now c.pair_in.result.0.now c.pair_in.result.1.now
    c.in-Dict.is c.self.view_is c.self.invariant.0 (ap (λ (us : List Tree). roses_of us) (sym c.as_slice-children.ensures.value) ∙ c.pair_in.ensures.pair) in
    c.natural_at-in-Some.ensures ∙ ap (λ (w : Value). natural w) (named_row c.args.self.now c.pair_in.result.0.now c.pair_in.result.1.now a c.args.index c.in-Some.code (sym c.in-Some.is ∙ c.natural_at-in-Dict.ensures))

pub array::Array::natural_at-returns-in-None : goal.array::Array::natural_at-returns-in-None
array::Array::natural_at-returns-in-None t c =
    let a : IsDict c.args.self.now c.pair_in.result.0.now c.pair_in.result.1.now =
    dict_of (typ c.self.inside.dtype) c.self.inside.len c.self.inside.stats c.self.inside.body c.in-Dict.flag (roses_of c.self.inside.children.items) c.args.self.now c.pair_in.result.0.now c.pair_in.result.1.now
    c.in-Dict.is c.self.view_is c.self.invariant.0 (ap (λ (us : List Tree). roses_of us) (sym c.as_slice-children.ensures.value) ∙ c.pair_in.ensures.pair) in
    unnamed_natural c.args.self.now c.pair_in.result.0.now c.pair_in.result.1.now a c.args.index c.requires (sym c.in-None.is ∙ c.natural_at-in-Dict.ensures)

-- ---- variants

pub array::Array::flag_at-returns-in-Variant : goal.array::Array::flag_at-returns-in-Variant
array::Array::flag_at-returns-in-Variant t c =
    flag_of (typ c.self.inside.dtype) c.self.inside.len c.self.inside.stats c.self.inside.body (roses_of c.self.inside.children.items) c.args.self.now c.args.index c.in-Variant.is c.self.view_is c.self.invariant c.requires.inside

pub array::Array::natural_at-returns-in-Variant : goal.array::Array::natural_at-returns-in-Variant
array::Array::natural_at-returns-in-Variant t c =
    natural_of (typ c.self.inside.dtype) c.self.inside.len c.self.inside.stats c.self.inside.body (roses_of c.self.inside.children.items) c.args.self.now c.args.index c.in-Variant.is c.self.view_is c.self.invariant c.requires
