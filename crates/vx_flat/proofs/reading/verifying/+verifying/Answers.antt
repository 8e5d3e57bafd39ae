use Rattle.std.proofs.Common.{rules, refl, sym, ◌∙◌, ◌≡◌, ◌-◌, suc, arith, drop, get_or, ◌+◌}
use Rattle.std.proofs.lemmas.Result.{err_from_is_err_and}
use Rattle.std.proofs.lemmas.List.{drop_more}
use Rattle.vx_flat.specs.declared.schema.FieldKind.TheVariants.{Number}
use Rattle.vx_flat.specs.declared.schema.Width.TheVariants.{One}
use Rattle.vx_flat.specs.Weight.{table_weight, elements_weight, text_weight, vector_weight}
use Rattle.vx_flat.specs.Reading.{table_shown, elements_shown, text_shown, vector_shown}
use Rattle.vx_flat.specs.View.{rows_from}
use Rattle.vx_flat.specs.Value.{elements, text, texts, tables}
use Rattle.vx_flat.proofs.Counting.{verifies_map}
use Rattle.vx_flat.proofs.Each.{each_starts, each_fails, each_next, each_done, vector_crowded, vector_verified}
use Rattle.vx_flat.proofs.Parts.{field_table_lies}
use Rattle.vx_flat.specs.Places.{is_inline, are_inline, place_of}
use Rattle.vx_flat.specs.declared.schema.FieldKind.TheVariants.{Union}
use Rattle.vx_flat.proofs.Counting.{counted_nothing}
use Rattle.vx_flat.specs.Reading.{union_shown}
use Rattle.vx_flat.specs.Weight.{union_weight}
use Rattle.vx_flat.proofs.Checked.{not_inline, verifies_inline, union_tag, union_target, was_inline, was_counted, field_judged, all_inline, inline_next, inline_here, checked_levels, checked_budget, table_checked, table_lost}
use Rattle.vx_flat.proofs.FieldsLoop.{fields_start, fields_fail, fields_next, one_shown, one_weighs, shown_from, weighs_from}
use Rattle.vx_flat.proofs.reading.verifying.+verifying.Goals as goal

pub verify_each_table-loop-init : goal.verify_each_table-loop-init
verify_each_table-loop-init g n c =
    let m = c.args.message.now in
    let s = g.K.TableKind.schema in (
      omega arith,
      each_starts m (λ q. table_shown s m q c.args.table)
          (λ q. table_weight s m q c.args.table) c.args.budget.now c.args.levels c.args.place c.args.n,
      refl,
    )

pub verify_each_table-returns-in_err-verify_table-clause-verifies : goal.verify_each_table-returns-in_err-verify_table-clause-verifies
verify_each_table-returns-in_err-verify_table-clause-verifies g n c =
    let p = err_from_is_err_and c.from_residual.result c.from_residual.ensures.1 in
    let m = c.args.message.now in
    let s = g.K.TableKind.schema in
    rw (p.1, p.2)
    (each_fails m (λ q. table_shown s m q c.args.table)
    (λ q. table_weight s m q c.args.table) c.args.budget.now c.args.levels c.args.place c.args.n
    c.in_err-verify_table.field-0.0 c.loop.budget c.loop.at c.loop.counter
    c.loop-test.true c.loop.invariant.1 (rw (← c.target_at-target.ensures) c.in_err-verify_table.ensures.verifies))

pub verify_each_table-loop-preserved : goal.verify_each_table-loop-preserved
verify_each_table-loop-preserved g n c =
    let m = c.args.message.now in
    let s = g.K.TableKind.schema in
    let k = c.in_ok-verify_table.ensures.verifies in (
      omega (arith, c.loop.invariant.0),
      each_next m (λ q. table_shown s m q c.args.table)
          (λ q. table_weight s m q c.args.table) c.args.budget.now c.args.levels c.args.place c.args.n c.loop.budget
          c.verify_table.new.budget c.loop.at c.loop.counter c.loop-test.true c.loop.invariant.1
          (rw (← c.target_at-target.ensures) k.0)
          (rw (← c.target_at-target.ensures) k.1),
      let e = c.in_ok-verify_table.ensures.exact in
          omega (arith, c.loop.invariant.2, e),
    )

pub verify_each_table-returns-clause-verifies : goal.verify_each_table-returns-clause-verifies
verify_each_table-returns-clause-verifies g n c =
    let m = c.args.message.now in
    let s = g.K.TableKind.schema in
    each_done m (λ q. table_shown s m q c.args.table)
    (λ q. table_weight s m q c.args.table) c.args.budget.now c.args.levels c.args.place c.args.n c.loop.budget
    c.loop.at c.loop.counter
    c.loop-test.false c.loop.invariant.1

pub verify_tables-returns-in_err-add_bytes-clause-verifies : goal.verify_tables-returns-in_err-add_bytes-clause-verifies
verify_tables-returns-in_err-add_bytes-clause-verifies g n c =
    let p = err_from_is_err_and c.from_residual.result c.from_residual.ensures.1 in
    let k = c.in_err-add_bytes.ensures.counts c.args.levels in
    let m = c.args.message.now in
    let s = g.K.TableKind.schema in
    rw (p.1, p.2, k.0)
    (vector_crowded m (λ q. table_shown s m q c.args.table)
    (λ q. table_weight s m q c.args.table) c.args.budget.now c.args.levels c.args.place c.in-Some.n
    c.in-Some.ensures.count k.1)

pub verify_tables-returns-clause-verifies : goal.verify_tables-returns-clause-verifies
verify_tables-returns-clause-verifies g n c =
    let m = c.args.message.now in
    let s = g.K.TableKind.schema in
    vector_verified m (λ q. table_shown s m q c.args.table)
    (λ q. table_weight s m q c.args.table) c.args.budget.now c.args.levels c.args.place c.in-Some.n
    c.in-Some.ensures.count
    c.verify_each_table.result c.add_bytes.new.self c.verify_each_table.new.budget
    (c.in_ok-add_bytes.ensures.counts c.args.levels) c.verify_each_table.ensures.verifies

pub verify_present-returns-in-Vector-clause-verifies : goal.verify_present-returns-in-Vector-clause-verifies
verify_present-returns-in-Vector-clause-verifies g n c =
    let m = c.args.message.now in
    let s = g.K.TableKind.schema in
    rw (c.in-Vector.is, ← c.target_at-target.ensures, ← c.bytes.ensures.value)
    (verifies_map c.verify_elements.result (elements_shown m c.target_at-target.result c.bytes.result) (λ bs. elements bs) c.args.budget.now c.args.levels
    (elements_weight m c.target_at-target.result c.bytes.result) c.verify_elements.new.budget (c.verify_elements.ensures.verifies c.args.levels))

pub verify_present-returns-in-Structs-clause-verifies : goal.verify_present-returns-in-Structs-clause-verifies
verify_present-returns-in-Structs-clause-verifies g n c =
    let m = c.args.message.now in
    let s = g.K.TableKind.schema in
    rw (c.in-Structs.is, ← c.target_at-target-in-Structs.ensures, ← c.struct_size.ensures.value)
    (verifies_map c.verify_elements-in-Structs.result (elements_shown m c.target_at-target-in-Structs.result c.struct_size.result) (λ bs. elements bs) c.args.budget.now c.args.levels
    (elements_weight m c.target_at-target-in-Structs.result c.struct_size.result) c.verify_elements-in-Structs.new.budget (c.verify_elements-in-Structs.ensures.verifies c.args.levels))

pub verify_present-returns-in-Text-clause-verifies : goal.verify_present-returns-in-Text-clause-verifies
verify_present-returns-in-Text-clause-verifies g n c =
    let m = c.args.message.now in
    let s = g.K.TableKind.schema in
    rw (c.in-Text.is, ← c.target_at.ensures)
    (verifies_map c.verify_text.result (text_shown m c.target_at.result) (λ bs. text bs) c.args.budget.now c.args.levels
    (text_weight m c.target_at.result) c.verify_text.new.budget (c.verify_text.ensures.verifies c.args.levels))

pub verify_present-returns-in-Texts-clause-verifies : goal.verify_present-returns-in-Texts-clause-verifies
verify_present-returns-in-Texts-clause-verifies g n c =
    let m = c.args.message.now in
    let s = g.K.TableKind.schema in
    rw (c.in-Texts.is, ← c.target_at-in-Texts.ensures)
    (verifies_map c.verify_texts.result (vector_shown (λ q. text_shown m q) m c.target_at-in-Texts.result) (λ ss. texts ss) c.args.budget.now c.args.levels
    (vector_weight (λ q. text_weight m q) m c.target_at-in-Texts.result) c.verify_texts.new.budget (c.verify_texts.ensures.verifies c.args.levels))

pub verify_present-returns-in-Tables-clause-verifies : goal.verify_present-returns-in-Tables-clause-verifies
verify_present-returns-in-Tables-clause-verifies g n c =
    let m = c.args.message.now in
    let s = g.K.TableKind.schema in
    rw (c.in-Tables.is, ← c.target_at-target-in-Tables.ensures)
    (verifies_map c.verify_tables.result (vector_shown (λ q. table_shown s m q c.in-Tables.table) m c.target_at-target-in-Tables.result) (λ rs. tables (rows_from rs)) c.args.budget.now c.args.levels
    (vector_weight (λ q. table_weight s m q c.in-Tables.table) m c.target_at-target-in-Tables.result) c.verify_tables.new.budget c.verify_tables.ensures.verifies)

pub verify_fields-loop-field-init : goal.verify_fields-loop-field-init
verify_fields-loop-field-init g n c = record {
  few = omega arith;
  inline = refl;
  so_far = fields_start g.K.TableKind.schema c.args.message.now c.args.place c.args.fields c.args.kinds.now
      c.args.budget.now c.args.levels;
  exact = refl;
}

pub verify_fields-loop-field-preserved : goal.verify_fields-loop-field-preserved
verify_fields-loop-field-preserved g n c =
    let ks = c.args.kinds.now in
    let m = c.args.message.now in
    let p = c.args.place in
    let f = c.args.fields in
    let s = g.K.TableKind.schema in
    let i = c.loop-field.field-index in
    let k = get_or ks i (Number One) in
    let more = drop_more ks i (Number One) c.loop-field-test.true in
    let entry = c.loop-field.entry in
    let one = is_inline m k (place_of m p f entry) (place_of m p f (entry + 1)) in
    let was = was_inline one (one_shown s m p f k entry) c.in_default.ensures.verifies.0 in
    record {
      few = omega (arith, c.loop-field.invariant.few, c.slots-entry.ensures.small);
      inline = rw c.slots-entry.ensures.value
          (inline_next m p f k (drop (i + 1) ks) (drop i ks) entry more was.0 ∙ c.loop-field.invariant.inline);
      so_far = rw c.slots-entry.ensures.value
          (fields_next s m p f ks c.args.budget.now
          c.args.levels c.loop-field.budget k (drop (i + 1) ks) (drop i ks) entry more
          c.loop-field.invariant.so_far c.verify_field.new.budget was.1
          (was_counted one c.loop-field.budget c.args.levels (one_weighs s m p f k entry) c.verify_field.new.budget was.0 c.in_default.ensures.verifies.1));
      exact = let e = c.in_default.ensures.exact in omega (arith, c.loop-field.invariant.exact, e);
    }

pub verify_table-returns-in_default-clause-verifies : goal.verify_table-returns-in_default-clause-verifies
verify_table-returns-in_default-clause-verifies g n c =
    table_lost g.K.TableKind.schema c.args.message.now c.args.place c.args.table c.fields-kinds.result.now
    c.fields-kinds.ensures c.in_default.ensures

pub verify_table-refusal-requires-clause-lies : goal.verify_table-refusal-requires-clause-lies
verify_table-refusal-requires-clause-lies g n c =
    (field_table_lies c.args.message.now c.args.place c.in-Some.fields c.in-Some.ensures).0

pub verify_table-refusal-requires-clause-here : goal.verify_table-refusal-requires-clause-here
verify_table-refusal-requires-clause-here g n c =
    (field_table_lies c.args.message.now c.args.place c.in-Some.fields c.in-Some.ensures).1

pub verify_table-returns-then-levels-eq0-clause-verifies : goal.verify_table-returns-then-levels-eq0-clause-verifies
verify_table-returns-then-levels-eq0-clause-verifies g n c =
    rw c.refusal.ensures
    (checked_levels g.K.TableKind.schema c.args.message.now c.args.place c.args.table c.in-Some.fields
    c.fields-kinds.result.now c.fields-kinds.ensures c.in-Some.ensures c.args.budget.now c.args.levels
    _ refl c.if-levels-eq0.true)

pub verify_table-refusal-requires-in-Err-clause-lies : goal.verify_table-refusal-requires-in-Err-clause-lies
verify_table-refusal-requires-in-Err-clause-lies g n c =
    (field_table_lies c.args.message.now c.args.place c.in-Some.fields c.in-Some.ensures).0

pub verify_table-refusal-requires-in-Err-clause-here : goal.verify_table-refusal-requires-in-Err-clause-here
verify_table-refusal-requires-in-Err-clause-here g n c =
    (field_table_lies c.args.message.now c.args.place c.in-Some.fields c.in-Some.ensures).1

pub verify_table-returns-in-Err-clause-verifies : goal.verify_table-returns-in-Err-clause-verifies
verify_table-returns-in-Err-clause-verifies g n c =
    let k = c.in-Err.ensures in
    let l : c.args.levels ≡ suc (c.args.levels - 1) = omega arith in
    rw (c.refusal-in-Err.ensures, k.0, l)
    (checked_budget g.K.TableKind.schema c.args.message.now c.args.place c.args.table c.in-Some.fields
    c.fields-kinds.result.now c.fields-kinds.ensures c.in-Some.ensures c.args.budget.now (c.args.levels - 1) _ refl k.1)

pub verify_table-verify_fields-requires : goal.verify_table-verify_fields-requires
verify_table-verify_fields-requires g n c =
    let l = field_table_lies c.args.message.now c.args.place c.in-Some.fields c.in-Some.ensures in
    λ ks o. (search rules, (o.0, (o.1, (l.0, l.1))))

pub verify_table-returns-clause-verifies : goal.verify_table-returns-clause-verifies
verify_table-returns-clause-verifies g n c =
    let l : c.args.levels ≡ suc (c.args.levels - 1) = omega arith in
    rw l (table_checked g.K.TableKind.schema c.args.message.now c.args.place c.args.table c.in-Some.fields
    c.fields-kinds.result.now c.fields-kinds.ensures c.in-Some.ensures c.verify_fields.result c.args.budget.now
    c.add_table.new.self c.verify_fields.new.budget
    (c.args.levels - 1) _ refl c.in_default-add_table.ensures c.verify_fields.ensures.verifies)

pub verify_fields-returns-in-Err-clause-verifies : goal.verify_fields-returns-in-Err-clause-verifies
verify_fields-returns-in-Err-clause-verifies g n c =
    let ks = c.args.kinds.now in
    let m = c.args.message.now in
    let p = c.args.place in
    let f = c.args.fields in
    let s = g.K.TableKind.schema in
    let i = c.loop-field.field-index in
    let k = get_or ks i (Number One) in
    let more = drop_more ks i (Number One) c.loop-field-test.true in
    let entry = c.loop-field.entry in
    let one = is_inline m k (place_of m p f entry) (place_of m p f (entry + 1)) in
    rw c.refusal.ensures
    (field_judged one (are_inline m p f ks 0) c.in-Err.error (one_shown s m p f k entry) (shown_from s m p f ks 0)
    c.args.budget.now c.loop-field.budget c.args.levels (one_weighs s m p f k entry) (weighs_from s m p f ks 0)
    (λ e. sym c.loop-field.invariant.inline ∙ inline_here m p f k (drop (i + 1) ks) (drop i ks) entry more e)
    c.in-Err.ensures.verifies
    (λ h. fields_fail s m p f ks c.args.budget.now c.args.levels c.loop-field.budget k (drop (i + 1) ks) (drop i ks) entry
    more c.loop-field.invariant.so_far c.in-Err.error h))

pub verify_union-returns-then-not-is_union_inline-clause-verifies : goal.verify_union-returns-then-not-is_union_inline-clause-verifies
verify_union-returns-then-not-is_union_inline-clause-verifies g n c =
    let s = g.K.TableKind.schema in
    let m = c.args.message.now in
    not_inline (is_inline m (Union c.args.union) c.args.here c.args.next)
    (union_shown s (λ q T. table_shown s m q T) m c.args.union c.args.here c.args.next)
    (sym (c.is_union_inline.ensures c.args.union) ∙ c.if-not-is_union_inline.true)

pub verify_union-returns-in_default-clause-verifies : goal.verify_union-returns-in_default-clause-verifies
verify_union-returns-in_default-clause-verifies g n c =
    let s = g.K.TableKind.schema in
    let m = c.args.message.now in
    all_inline (is_inline m (Union c.args.union) c.args.here c.args.next)
    (union_shown s (λ q T. table_shown s m q T) m c.args.union c.args.here c.args.next)
    c.args.budget.now c.args.levels
    (union_weight s (λ q T. table_weight s m q T) m c.args.union c.args.here c.args.next)
    c.args.budget.now
    (sym (c.is_union_inline.ensures c.args.union) ∙ c.if-not-is_union_inline.false)
    (rw c.in_default.is (refl, counted_nothing c.args.budget.now c.args.levels))

pub verify_union-tag_at-tag-requires : goal.verify_union-tag_at-tag-requires
verify_union-tag_at-tag-requires g n c =
    union_tag c.args.message.now c.args.union c.args.here c.args.next
    (sym (c.is_union_inline.ensures c.args.union) ∙ c.if-not-is_union_inline.false)

pub verify_union-target_at-requires : goal.verify_union-target_at-requires
verify_union-target_at-requires g n c =
    union_target c.args.message.now c.args.union c.args.here c.args.next
    (sym (c.is_union_inline.ensures c.args.union) ∙ c.if-not-is_union_inline.false) c.in-Some.next c.in-Some.is

pub verify_union-returns-clause-verifies : goal.verify_union-returns-clause-verifies
verify_union-returns-clause-verifies g n c =
    let s = g.K.TableKind.schema in
    let m = c.args.message.now in
    verifies_inline c.verify_member.result (is_inline m (Union c.args.union) c.args.here c.args.next)
    (union_shown s (λ q T. table_shown s m q T) m c.args.union c.args.here c.args.next)
    c.args.budget.now c.args.levels
    (union_weight s (λ q T. table_weight s m q T) m c.args.union c.args.here c.args.next)
    c.verify_member.new.budget
    (sym (c.is_union_inline.ensures c.args.union) ∙ c.if-not-is_union_inline.false)
    (rw (c.in-Some.is, ← c.target_at.ensures, ← c.tag_at-tag.ensures) c.verify_member.ensures.verifies)
