-- The search for a field goes on until the name is the one.
use Rattle.std.proofs.Common.{sym, ◌∙◌, arith}
use Rattle.vx_rows.proofs.Fieldwise.{field_found, field_fits, field_null, field_smaller, field_none, borrowed_counts, search_on}
use Rattle.vx_rows.proofs.merging.field_in.Goals as goal

pub returns-in-Some-clause-found : goal.returns-in-Some-clause-found
returns-in-Some-clause-found c =
    let s = c.args.structure in
    field_found s.fields.now.names s.fields.now.types s.values.now c.args.name.now c.as_slice-names.result.now c.as_slice-types.result.now c.as_slice-values.result.now
    (c.as_slice-names.ensures ∙ c.names.ensures) (c.as_slice-types.ensures ∙ c.fields.ensures) c.as_slice-values.ensures c.loop-i.i c.index-names-i.result c.index-values-i.result
    (omega (arith, c.loop-i-test.true, c.min-i-end.ensures, c.min.ensures)) (omega (arith, c.loop-i-test.true, c.min-i-end.ensures, c.min.ensures)) c.index-names-i.is c.index-values-i.is
    c.index-types-i.result (omega (arith, c.loop-i-test.true, c.min-i-end.ensures, c.min.ensures)) c.index-types-i.is c.in-Some.value (sym c.eq.ensures ∙ c.if-eq.true) c.loop-i.invariant c.in-Some.is

pub returns-in-Some-clause-fits : goal.returns-in-Some-clause-fits
returns-in-Some-clause-fits c =
    let s = c.args.structure in
    field_fits s.fields.now.names s.fields.now.types s.values.now c.args.name.now c.as_slice-names.result.now c.as_slice-types.result.now c.as_slice-values.result.now
    (c.as_slice-names.ensures ∙ c.names.ensures) (c.as_slice-types.ensures ∙ c.fields.ensures) c.as_slice-values.ensures c.loop-i.i c.index-names-i.result c.index-values-i.result
    (omega (arith, c.loop-i-test.true, c.min-i-end.ensures, c.min.ensures)) (omega (arith, c.loop-i-test.true, c.min-i-end.ensures, c.min.ensures)) c.index-names-i.is c.index-values-i.is
    c.index-types-i.result (omega (arith, c.loop-i-test.true, c.min-i-end.ensures, c.min.ensures)) c.index-types-i.is c.in-Some.value c.requires.fits c.in-Some.is

pub returns-in-Some-clause-smaller : goal.returns-in-Some-clause-smaller
returns-in-Some-clause-smaller c =
    let s = c.args.structure in
    field_smaller s.fields.now.names s.fields.now.types s.values.now c.args.name.now c.as_slice-names.result.now c.as_slice-types.result.now c.as_slice-values.result.now
    (c.as_slice-names.ensures ∙ c.names.ensures) (c.as_slice-types.ensures ∙ c.fields.ensures) c.as_slice-values.ensures c.loop-i.i c.index-names-i.result c.index-values-i.result
    (omega (arith, c.loop-i-test.true, c.min-i-end.ensures, c.min.ensures)) (omega (arith, c.loop-i-test.true, c.min-i-end.ensures, c.min.ensures)) c.index-names-i.is c.index-values-i.is
    c.in-Some.value c.in-Some.is

pub returns-in-None-clause-found : goal.returns-in-None-clause-found
returns-in-None-clause-found c =
    let s = c.args.structure in
    field_null s.fields.now.names s.fields.now.types s.values.now c.args.name.now c.as_slice-names.result.now c.as_slice-types.result.now c.as_slice-values.result.now
    (c.as_slice-names.ensures ∙ c.names.ensures) (c.as_slice-types.ensures ∙ c.fields.ensures) c.as_slice-values.ensures c.loop-i.i c.index-names-i.result c.index-values-i.result
    (omega (arith, c.loop-i-test.true, c.min-i-end.ensures, c.min.ensures)) (omega (arith, c.loop-i-test.true, c.min-i-end.ensures, c.min.ensures)) c.index-names-i.is c.index-values-i.is
    (omega (arith, c.loop-i-test.true, c.min-i-end.ensures, c.min.ensures)) (sym c.eq.ensures ∙ c.if-eq.true) c.loop-i.invariant c.in-None.is

pub loop-i-preserved : goal.loop-i-preserved
loop-i-preserved c =
    search_on c.args.name.now c.as_slice-names.result.now c.as_slice-types.result.now c.as_slice-values.result.now c.loop-i.i c.index-names-i.result
    (omega (arith, c.loop-i-test.true, c.min-i-end.ensures, c.min.ensures)) (omega (arith, c.loop-i-test.true, c.min-i-end.ensures, c.min.ensures)) (omega (arith, c.loop-i-test.true, c.min-i-end.ensures, c.min.ensures))
    c.index-names-i.is (sym c.eq.ensures ∙ c.if-eq.false) c.loop-i.invariant

pub returns-clause-found : goal.returns-clause-found
returns-clause-found c =
    let s = c.args.structure in
    let l = borrowed_counts s.fields.now.names s.fields.now.types s.values.now c.as_slice-names.result.now c.as_slice-types.result.now c.as_slice-values.result.now
    (c.as_slice-names.ensures ∙ c.names.ensures) (c.as_slice-types.ensures ∙ c.fields.ensures) c.as_slice-values.ensures c.requires.named c.requires.fits in
    field_none s.fields.now.names s.fields.now.types s.values.now c.args.name.now c.as_slice-names.result.now c.as_slice-types.result.now c.as_slice-values.result.now
    (c.as_slice-names.ensures ∙ c.names.ensures) (c.as_slice-types.ensures ∙ c.fields.ensures) c.as_slice-values.ensures c.loop-i.i
    (omega (arith, l.0, l.1, c.loop-i-test.false, c.min-i-end.ensures, c.min.ensures)) c.loop-i.invariant
