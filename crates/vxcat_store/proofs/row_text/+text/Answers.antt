use Rattle.std.proofs.Common.{List, ℕ, ◌++◌, string_bytes, codes, sym, ap, ◌∙◌, arith}
use Rattle.std.proofs.lemmas.Result.{IfOk-weaker}
use Rattle.std.specs.Fmt.{decimal}
use Rattle.std.specs.Prelude.{option_map}
use Rattle.vx_trees.specs.Walks.{nodes}
use Rattle.vx_types.specs.Seen.{typ}
use Rattle.vx_types.specs.Typ.{Typ}
use Rattle.vx_types.specs.Value.{Value}
use Rattle.vx_rows.specs.Plain.{plain_value}
use Rattle.vxcat_store.specs.RowText.{entry_text, parted, value_text}
use Rattle.vxcat_store.proofs.RowTexts.{smaller_value, each_next, by_next, by_all, entries_next, tuple_is, no_pair, pair_text}
use Rattle.vxcat_store.proofs.UnionTexts.{union_some, union_none, variant_is}
use Rattle.vxcat_store.proofs.row_text.+text.Goals as goal

-- ---- texts of one type

pub texts_of_one-row_text-requires : goal.texts_of_one-row_text-requires
texts_of_one-row_text-requires t c = (omega (arith, smaller_value c.args.values.now c.loop-i.i c.index-values-i.result c.loop-i-test.true c.index-values-i.is), tt)

pub texts_of_one-loop-i-preserved : goal.texts_of_one-loop-i-preserved
texts_of_one-loop-i-preserved t c =
    each_next c.args.values.now c.loop-i.i c.index-values-i.result (typ c.args.dtype.now) c.as_str.result.now (string_bytes c.loop-i.texts) (string_bytes c.add_text.new.texts)
    c.loop-i-test.true c.index-values-i.is (c.as_str.ensures.value ∙ c.in_ok-text.ensures) c.loop-i.invariant c.in_ok-add_text.ensures

-- ---- texts each of a type

pub texts_by-row_text-requires : goal.texts_by-row_text-requires
texts_by-row_text-requires t c = (omega (arith, smaller_value c.args.values.now c.loop-i.i c.index-values-i.result (omega (arith, c.loop-i-test.true, c.min-i-end.ensures)) c.index-values-i.is), tt)

pub texts_by-loop-i-preserved : goal.texts_by-loop-i-preserved
texts_by-loop-i-preserved t c =
    by_next c.args.values.now c.args.dtypes.now c.loop-i.i c.index-values-i.result c.index-dtypes-i.result c.as_str.result.now (string_bytes c.loop-i.texts) (string_bytes c.add_text.new.texts)
    (omega (arith, c.loop-i-test.true, c.min-i-end.ensures)) (omega (arith, c.loop-i-test.true, c.min-i-end.ensures)) c.index-values-i.is c.index-dtypes-i.is
    (c.as_str.ensures.value ∙ c.in_ok-text.ensures) c.loop-i.invariant c.in_ok-add_text.ensures

pub texts_by-returns : goal.texts_by-returns
texts_by-returns t c = c.loop-i.invariant ∙ ap parted (by_all c.args.values.now c.args.dtypes.now c.loop-i.i (omega (arith, c.loop-i-test.false, c.min-i-end.ensures)))

-- ---- entries

pub entry_texts-entry_text-requires : goal.entry_texts-entry_text-requires
entry_texts-entry_text-requires t c = (omega (arith, smaller_value c.args.values.now c.loop-i.i c.index-values-i.result c.loop-i-test.true c.index-values-i.is), tt)

pub entry_texts-loop-i-preserved : goal.entry_texts-loop-i-preserved
entry_texts-loop-i-preserved t c =
    entries_next c.args.values.now c.loop-i.i c.index-values-i.result c.args.map.now.key c.args.map.now.value c.as_str.result.now (string_bytes c.loop-i.texts) (string_bytes c.add_text.new.texts)
    c.loop-i-test.true c.index-values-i.is (c.as_str.ensures.value ∙ c.in_ok-text.ensures) c.loop-i.invariant c.in_ok-add_text.ensures

pub entry_text-returns-then-parts-ne2 : goal.entry_text-returns-then-parts-ne2
entry_text-returns-then-parts-ne2 t c =
    let x = c.args.map.now.key in
    let y = c.args.map.now.value in
    let parts = c.as_slice-parts.result.now in
    let is = ap (λ (v : Value). entry_text v x y) (tuple_is c.args.value.now c.in-Tuple.parts parts c.in-Tuple.is c.as_slice-parts.ensures) in
    IfOk-weaker c.from_str.result _ _ (λ text h. h ∙ sym (is ∙ no_pair parts x y c.if-parts-ne2.true)) c.from_str.ensures.ok

pub entry_text-returns-in_ok-value-in-Tuple : goal.entry_text-returns-in_ok-value-in-Tuple
entry_text-returns-in_ok-value-in-Tuple t c =
    let x = c.args.map.now.key in
    let y = c.args.map.now.value in
    let parts = c.as_slice-parts.result.now in
    let a = c.index-parts-0.result in
    let b = c.index-parts-1.result in
    let is = ap (λ (v : Value). entry_text v x y) (tuple_is c.args.value.now c.in-Tuple.parts parts c.in-Tuple.is c.as_slice-parts.ensures) in
    let key = c.in_ok-key-in-Tuple.ensures ∙ ap (λ (d : Typ). value_text (plain_value a) d) c.key_dtype.ensures in
    let value = c.in_ok-value-in-Tuple.ensures ∙ ap (λ (d : Typ). value_text (plain_value b) d) c.value_dtype.ensures in
    IfOk-weaker c.format.result _ _
    (λ text h. h ∙ ap (λ (k : List ℕ). k ++ (codes "=>" ++ string_bytes c.in_ok-value-in-Tuple.value)) key
    ∙ ap (λ (v : List ℕ). value_text (plain_value a) x ++ (codes "=>" ++ v)) value
    ∙ sym (is ∙ pair_text parts a b x y c.if-parts-ne2.false c.index-parts-0.is c.index-parts-1.is))
    c.format.ensures.ok

-- ---- unions

pub union_text-returns-in_ok-text-in-Some : goal.union_text-returns-in_ok-text-in-Some
union_text-returns-in_ok-text-in-Some t c =
    let e = ap (λ o. option_map (λ d. typ d.now) o) (sym c.in-Some.is) ∙ c.member_type.ensures in
    let row = plain_value c.args.row.now in
    IfOk-weaker c.format.result _ _
    (λ text h. h ∙ ap (λ (r : List ℕ). codes "#" ++ (decimal c.args.tag ++ (codes "(" ++ (r ++ codes ")")))) c.in_ok-text-in-Some.ensures
    ∙ sym (union_some c.args.tag row (typ c.args.dtype.now) (typ c.in-Some.member.now) e))
    c.format.ensures.ok

pub union_text-returns-in-None : goal.union_text-returns-in-None
union_text-returns-in-None t c =
    let e = ap (λ o. option_map (λ d. typ d.now) o) (sym c.in-None.is) ∙ c.member_type.ensures in
    IfOk-weaker c.format-in-None.result _ _ (λ text h. h ∙ sym (union_none c.args.tag (plain_value c.args.row.now) (typ c.args.dtype.now) e)) c.format-in-None.ensures.ok

-- ---- variants

pub variant_text-text_of-requires : goal.variant_text-text_of-requires
variant_text-text_of-requires t c = (omega (arith, ap (λ (v : Value). nodes v) c.in_ok-value.ensures), tt)

pub variant_text-returns : goal.variant_text-returns
variant_text-returns t c =
    let d = c.args.scalar.now.dtype in
    let text = c.in_ok-text.ensures ∙ (λ i. value_text (c.in_ok-value.ensures i) (c.dtype.ensures i)) in
    IfOk-weaker c.format.result _ _ (λ made h. h ∙ ap (λ (r : List ℕ). codes "v(" ++ (r ++ codes ")")) text ∙ variant_is d d c.args.scalar.now.value) c.format.ensures.ok
