use Rattle.std.proofs.Common.{arith, ◌≡◌, ◌+◌, ◌∷◌, [], map, drop, length, get_or, ap, ◌∙◌, sym, subst, string_bytes}
use Rattle.std.proofs.lemmas.Result.{err_from_is_err_and}
use Rattle.vx_flat.specs.declared.builder.piece.LinkKind.TheVariants as link
use Rattle.vx_flat.specs.declared.schema.FieldKind.TheVariants.{Number}
use Rattle.vx_flat.specs.declared.schema.Width.TheVariants.{One}
use Rattle.vx_flat.specs.Building.{Built, with_rest, with_piece, with_pieces}
use Rattle.vx_flat.specs.Pieces.{links_piece, table_piece, elements_piece, text_piece, entries, field_pieces, fields_pieces, rows_pieces, table_pieces}
use Rattle.vx_flat.specs.Schema.{fields_of}
use Rattle.vx_flat.specs.Value.{elements, text, texts, table, tables, member}
use Rattle.vx_flat.specs.View.{view, views, rows_from}
use Rattle.vx_flat.proofs.Entries.{entries_taken}
use Rattle.vx_flat.proofs.Lawful.{tables_short}
use Rattle.vx_flat.proofs.Sizes.{size_field, size_at, size_row_at}
use Rattle.std.specs.Prelude.{OnOk, IfErr}
use Rattle.vx_flat.specs.Walking.{IsCut}
use Rattle.vx_flat.proofs.Pushing.{rows_of_kind}
use Rattle.vx_flat.proofs.Views.{view-Elements, view-Text, view-Texts, view-Table, view-Tables, view-Member}
use Rattle.vx_flat.proofs.Walking.{told, told_cut, refused_cut, member_below, elements_below, text_below, texts_below, table_below, rows_below}
use Rattle.vx_flat.proofs.Walking.{FieldsLeft, RowsLeft, cut_more, walked_first, walked_more, walked_cut, first_left, kind_there, rows_first, entries_slots}
use Rattle.vx_flat.proofs.writing.walking.+blocks.Goals as goal

-- ---- the fields of a table

pub write_fields-write_below-requires : goal.write_fields-write_below-requires
write_fields-write_below-requires g n c =
    let s = g.K.TableKind.schema in
    let b = c.loop-i.builder in
    let all = with_rest c.args.builder.now (fields_pieces s c.args.kinds.now (views c.args.values.now)) in
    let w = first_left (λ ks vs. FieldsLeft s ks vs b all) s c.args.kinds.now c.args.values.now c.loop-i.i c.index-values-i.result
    c.loop-i-test.true c.index-values-i.is c.loop-i.invariant.of_kinds c.loop-i.invariant in
    let size = size_at view c.args.values.now c.loop-i.i c.index-values-i.result c.loop-i-test.true c.index-values-i.is in
    λ ks o. (omega (arith, size), (o, (w.of_kinds.0, c.loop-i.invariant.walked.works)))

pub write_fields-bounds-kinds-i : goal.write_fields-bounds-kinds-i
write_fields-bounds-kinds-i g n c =
    kind_there g.K.TableKind.schema c.args.kinds.now c.args.values.now c.loop-i.i c.index-values-i.result c.loop-i-test.true
    c.index-values-i.is c.loop-i.invariant.of_kinds

pub write_fields-loop-i-preserved : goal.write_fields-loop-i-preserved
write_fields-loop-i-preserved g n c =
    let s = g.K.TableKind.schema in
    let b = c.loop-i.builder in
    let i = c.loop-i.i in
    let all = with_rest c.args.builder.now (fields_pieces s c.args.kinds.now (views c.args.values.now)) in
    let w = first_left (λ ks vs. FieldsLeft s ks vs b all) s c.args.kinds.now c.args.values.now i c.index-values-i.result
    c.loop-i-test.true c.index-values-i.is c.loop-i.invariant.of_kinds c.loop-i.invariant in
    record {
      of_kinds = w.of_kinds.1;
      walked = walked_more b c.write_below.new.builder
          (field_pieces s (get_or c.args.kinds.now i (Number One)) (view c.index-values-i.result))
          (fields_pieces s (drop (i + 1) c.args.kinds.now) (views (drop (i + 1) c.args.values.now))) all w.walked
          c.in_ok-write_below.ensures.written;
    }

pub write_fields-returns-in_err-write_below-clause-cut : goal.write_fields-returns-in_err-write_below-clause-cut
write_fields-returns-in_err-write_below-clause-cut g n c =
    let q = err_from_is_err_and c.from_residual.result c.from_residual.ensures.1 in
    let s = g.K.TableKind.schema in
    let b = c.loop-i.builder in
    let i = c.loop-i.i in
    let all = with_rest c.args.builder.now (fields_pieces s c.args.kinds.now (views c.args.values.now)) in
    let w = first_left (λ ks vs. FieldsLeft s ks vs b all) s c.args.kinds.now c.args.values.now i c.index-values-i.result
    c.loop-i-test.true c.index-values-i.is c.loop-i.invariant.of_kinds c.loop-i.invariant in
    rw (q.1, q.2) (walked_cut b (field_pieces s (get_or c.args.kinds.now i (Number One)) (view c.index-values-i.result))
    (fields_pieces s (drop (i + 1) c.args.kinds.now) (views (drop (i + 1) c.args.values.now))) all
    c.in_err-write_below.field-0.0 w.walked c.in_err-write_below.ensures.cut)

-- ---- the tables of a vector

pub write_rows-loop-i-init : goal.write_rows-loop-i-init
write_rows-loop-i-init g n c = record {
  of_kinds = c.requires.of_kinds;
  walked = walked_first c.args.builder.now c.write_links.new.builder (links_piece link.Table (length c.args.rows.now))
      (rows_pieces g.K.TableKind.schema c.args.table (rows_from (map (λ r. views r.items) c.args.rows.now)))
      c.in_ok-write_links.ensures.written;
}

pub write_rows-write_table-requires : goal.write_rows-write_table-requires
write_rows-write_table-requires g n c =
    let s = g.K.TableKind.schema in
    let all = with_rest c.args.builder.now (links_piece link.Table (length c.args.rows.now)
    ∷ rows_pieces s c.args.table (rows_from (map (λ r. views r.items) c.args.rows.now))) in
    let w = rows_first (λ rs. RowsLeft s c.args.table rs c.loop-i.builder all) c.args.rows.now c.loop-i.i c.index-rows-i.result
    c.loop-i-test.true c.index-rows-i.is c.loop-i.invariant in
    let size = size_row_at (λ r. views r.items) c.args.rows.now c.loop-i.i c.index-rows-i.result c.loop-i-test.true c.index-rows-i.is in
    λ ks o. (
      rw c.deref.ensures.value (omega (arith, size)),
      (
        o,
        (
          rw c.deref.ensures.value w.of_kinds.0,
          ap (λ (b : Built). b.failed) c.go_on.ensures ∙ c.loop-i.invariant.walked.works,
        ),
      ),
    )

pub write_rows-loop-i-preserved : goal.write_rows-loop-i-preserved
write_rows-loop-i-preserved g n c =
    let s = g.K.TableKind.schema in
    let b = c.loop-i.builder in
    let i = c.loop-i.i in
    let ks = fields_of s c.args.table in
    let all = with_rest c.args.builder.now (links_piece link.Table (length c.args.rows.now)
    ∷ rows_pieces s c.args.table (rows_from (map (λ r. views r.items) c.args.rows.now))) in
    let w = rows_first (λ rs. RowsLeft s c.args.table rs b all) c.args.rows.now i c.index-rows-i.result
    c.loop-i-test.true c.index-rows-i.is c.loop-i.invariant in
    let written : c.write_table.new.builder ≡ with_rest b (table_pieces s ks (views c.index-rows-i.result.items)) =
    c.in_ok-write_table.ensures.written
    ∙ (λ k. with_pieces (c.go_on.ensures k) (table_pieces s ks (views (c.deref.ensures.value k)))) in
    record {
      of_kinds = w.of_kinds.1;
      walked = walked_more b c.write_table.new.builder (table_pieces s ks (views c.index-rows-i.result.items))
          (rows_pieces s c.args.table (rows_from (map (λ r. views r.items) (drop (i + 1) c.args.rows.now)))) all w.walked written;
    }

pub write_rows-returns-in_err-write_links-clause-cut : goal.write_rows-returns-in_err-write_links-clause-cut
write_rows-returns-in_err-write_links-clause-cut g n c =
    let q = err_from_is_err_and c.from_residual.result c.from_residual.ensures.1 in
    let rows = c.args.rows.now in
    rw (q.1, q.2) (cut_more (with_rest c.args.builder.now (links_piece link.Table (length rows) ∷ []))
    (rows_pieces g.K.TableKind.schema c.args.table (rows_from (map (λ r. views r.items) rows)))
    c.in_err-write_links.field-0.0 c.in_err-write_links.ensures.cut)

pub write_rows-returns-in_err-write_table-clause-cut : goal.write_rows-returns-in_err-write_table-clause-cut
write_rows-returns-in_err-write_table-clause-cut g n c =
    let q = err_from_is_err_and c.from_residual-in_err-write_table.result c.from_residual-in_err-write_table.ensures.1 in
    let s = g.K.TableKind.schema in
    let b = c.loop-i.builder in
    let i = c.loop-i.i in
    let e = c.in_err-write_table.field-0.0 in
    let ks = fields_of s c.args.table in
    let all = with_rest c.args.builder.now (links_piece link.Table (length c.args.rows.now)
    ∷ rows_pieces s c.args.table (rows_from (map (λ r. views r.items) c.args.rows.now))) in
    let w = rows_first (λ rs. RowsLeft s c.args.table rs b all) c.args.rows.now i c.index-rows-i.result
    c.loop-i-test.true c.index-rows-i.is c.loop-i.invariant in
    let cut = subst (λ m. IsCut (with_pieces m (table_pieces s ks (views c.index-rows-i.result.items))) e) c.go_on.ensures
    (subst (λ vs. IsCut (with_pieces c.go_on.new.self (table_pieces s ks (views vs))) e) c.deref.ensures.value
    c.in_err-write_table.ensures.cut) in
    rw (q.1, q.2) (walked_cut b (table_pieces s ks (views c.index-rows-i.result.items))
    (rows_pieces s c.args.table (rows_from (map (λ r. views r.items) (drop (i + 1) c.args.rows.now)))) all e w.walked cut)

-- ---- a table

pub write_table-put_table-requires-clause-few : goal.write_table-put_table-requires-clause-few
write_table-put_table-requires-clause-few g n c =
    let s = g.K.TableKind.schema in
    let vs = views c.args.values.now in
    let count = entries_slots s (fields_of s c.args.table) vs c.requires.of_kinds in
    let short = tables_short s g.met.K.TableKind.lawful c.args.table in
    let same = c.deref.ensures.value ∙ (c.in_ok-push_all.ensures ∙ ap (λ ks. entries ks vs) c.fields-kinds.ensures) in
    let long = ap length same in
    omega (arith, count, short, long)

pub write_table-put_table-requires-clause-entries : goal.write_table-put_table-requires-clause-entries
write_table-put_table-requires-clause-entries g n c =
    let s = g.K.TableKind.schema in
    let vs = views c.args.values.now in
    let same = c.deref.ensures.value ∙ (c.in_ok-push_all.ensures ∙ ap (λ ks. entries ks vs) c.fields-kinds.ensures) in
    rw same (entries_taken s (fields_of s c.args.table) vs c.requires.of_kinds)

pub write_table-returns-in_err-put_table-clause-cut : goal.write_table-returns-in_err-put_table-clause-cut
write_table-returns-in_err-put_table-clause-cut g n c =
    let q = err_from_is_err_and c.from_residual-in_err-put_table.result c.from_residual-in_err-put_table.ensures.1 in
    let s = g.K.TableKind.schema in
    let b = c.args.builder.now in
    let e = c.in_err-put_table.field-0.0 in
    let ks = fields_of s c.args.table in
    let vs = views c.args.values.now in
    let same = c.deref.ensures.value ∙ (c.in_ok-push_all.ensures ∙ ap (λ ks. entries ks vs) c.fields-kinds.ensures) in
    let t = c.take_entries-entries.new.self in
    let first = refused_cut t c.put_table.new.self (table_piece c.deref.result.now) e (ap (λ (m : Built). m.failed) c.take_entries-entries.ensures.same ∙ c.requires.works)
    c.in_err-put_table.ensures.refused in
    let cut = subst (λ m. IsCut (with_piece m (table_piece (entries ks vs))) e) c.take_entries-entries.ensures.same
    (subst (λ es. IsCut (with_piece t (table_piece es)) e) same first) in
    rw (q.1, q.2) (cut_more (with_piece b (table_piece (entries ks vs))) (fields_pieces s ks vs) e cut)

pub write_table-returns : goal.write_table-returns
write_table-returns g n c =
    let s = g.K.TableKind.schema in
    let b = c.args.builder.now in
    let ks = fields_of s c.args.table in
    let vs = views c.args.values.now in
    let same = c.deref.ensures.value ∙ (c.in_ok-push_all.ensures ∙ ap (λ ks. entries ks vs) c.fields-kinds.ensures) in
    let first : c.give_back.new.self ≡ with_piece b (table_piece (entries ks vs)) =
    c.give_back.ensures ∙ (c.in_ok-put_table.ensures.written ∙ (λ i. with_piece (c.take_entries-entries.ensures.same i) (table_piece (same i)))) in
    let more = ap (λ ds. fields_pieces s ds vs) c.fields-kinds.ensures in
    record {
      written = subst (λ m. OnOk c.write_fields.result (c.write_fields.new.builder ≡ with_rest m (fields_pieces s ks vs)))
          first (told c.write_fields.result c.write_fields.new.builder c.give_back.new.self _ _ more
          c.write_fields.ensures.written);
      cut = subst (λ m. IfErr c.write_fields.result (λ e. IsCut (with_rest m (fields_pieces s ks vs)) e)) first
          (told_cut c.write_fields.result c.give_back.new.self _ _ more c.write_fields.ensures.cut);
    }

-- ---- the blocks below a field

pub write_below-write_rows-requires : goal.write_below-write_rows-requires
write_below-write_rows-requires g n c =
    let rows = c.in-Tables.rows in
    let here : view c.args.value.now ≡ tables (rows_from (map (λ r. views r.items) rows.items)) =
    ap view c.in-Tables.is ∙ view-Tables rows in
    let size = ap size_field here in
    let of = rw here at c.requires.of_kind in
    λ ks o. (
      rw c.deref-in-Tables.ensures.value (omega (arith, size)),
      (
        o,
        (
          rw (c.table_number-in-Tables.ensures, c.deref-in-Tables.ensures.value)
              (rows_of_kind g.K.TableKind.schema c.args.field _ of),
          c.requires.works,
        ),
      ),
    )

pub write_below-returns-in-Elements : goal.write_below-returns-in-Elements
write_below-returns-in-Elements g n c =
    let s = g.K.TableKind.schema in
    let v = c.in-Elements.bytes in
    let here : view c.args.value.now ≡ elements v.items = ap view c.in-Elements.is ∙ view-Elements v in
    let of = rw here at c.requires.of_kind in
    let same = (λ i. elements_piece (c.element_size.ensures i) (c.deref.ensures.value i) ∷ [])
    ∙ (elements_below s c.args.field v.items of ∙ ap (λ f. field_pieces s c.args.field f) (sym here)) in
    record {
      written = told c.write_elements.result c.write_elements.new.builder c.args.builder.now _ _ same c.write_elements.ensures.written;
      cut = told_cut c.write_elements.result c.args.builder.now _ _ same c.write_elements.ensures.cut;
    }

pub write_below-returns-in-Text : goal.write_below-returns-in-Text
write_below-returns-in-Text g n c =
    let s = g.K.TableKind.schema in
    let t = c.in-Text.text in
    let here : view c.args.value.now ≡ text (string_bytes t) = ap view c.in-Text.is ∙ view-Text t in
    let of = rw here at c.requires.of_kind in
    let same = ap (λ bs. text_piece bs ∷ []) c.as_str.ensures.value
    ∙ (text_below s c.args.field (string_bytes t) of ∙ ap (λ f. field_pieces s c.args.field f) (sym here)) in
    record {
      written = told c.write_text.result c.write_text.new.builder c.args.builder.now _ _ same c.write_text.ensures.written;
      cut = told_cut c.write_text.result c.args.builder.now _ _ same c.write_text.ensures.cut;
    }

pub write_below-returns-in-Texts : goal.write_below-returns-in-Texts
write_below-returns-in-Texts g n c =
    let s = g.K.TableKind.schema in
    let xs = c.in-Texts.texts in
    let here : view c.args.value.now ≡ texts (map string_bytes xs.items) = ap view c.in-Texts.is ∙ view-Texts xs in
    let of = rw here at c.requires.of_kind in
    let same = ap (λ ys. links_piece link.Text (length ys) ∷ map text_piece (map string_bytes ys)) c.deref-in-Texts.ensures.value
    ∙ (texts_below s c.args.field xs.items of ∙ ap (λ f. field_pieces s c.args.field f) (sym here)) in
    record {
      written = told c.write_texts.result c.write_texts.new.builder c.args.builder.now _ _ same c.write_texts.ensures.written;
      cut = told_cut c.write_texts.result c.args.builder.now _ _ same c.write_texts.ensures.cut;
    }

pub write_below-returns-in-Table : goal.write_below-returns-in-Table
write_below-returns-in-Table g n c =
    let s = g.K.TableKind.schema in
    let v = c.in-Table.values in
    let here : view c.args.value.now ≡ table (views v.items) = ap view c.in-Table.is ∙ view-Table v in
    let of = rw here at c.requires.of_kind in
    let same = (λ i. table_pieces s (fields_of s (c.table_number.ensures i)) (views (c.deref-in-Table.ensures.value i)))
    ∙ (table_below s c.args.field (views v.items) of ∙ ap (λ f. field_pieces s c.args.field f) (sym here)) in
    let ps = table_pieces s (fields_of s c.table_number.result) (views c.deref-in-Table.result.now) in
    let written = subst (λ b. OnOk c.write_table.result (c.write_table.new.builder ≡ with_pieces b ps)) c.go_on.ensures c.write_table.ensures.written in
    let cut = subst (λ b. IfErr c.write_table.result (λ e. IsCut (with_pieces b ps) e)) c.go_on.ensures c.write_table.ensures.cut in
    record {
      written = told c.write_table.result c.write_table.new.builder c.args.builder.now _ _ same written;
      cut = told_cut c.write_table.result c.args.builder.now _ _ same cut;
    }

pub write_below-returns-in-Member : goal.write_below-returns-in-Member
write_below-returns-in-Member g n c =
    let s = g.K.TableKind.schema in
    let t = c.in-Member.tag in
    let v = c.in-Member.values in
    let here : view c.args.value.now ≡ member t (views v.items) = ap view c.in-Member.is ∙ view-Member t v in
    let m = member_below s c.args.field t (views v.items) (rw here at c.requires.of_kind) in
    let number : c.member_table-table.result ≡ m.table =
    c.member_table-table.ensures m.table (rw c.union_number.ensures m.tagged) in
    let same = (λ i. table_pieces s (fields_of s (number i)) (views (c.deref-in-Member.ensures.value i)))
    ∙ (m.below ∙ ap (λ f. field_pieces s c.args.field f) (sym here)) in
    let ps = table_pieces s (fields_of s c.member_table-table.result) (views c.deref-in-Member.result.now) in
    let written = subst (λ b. OnOk c.write_table-in-Member.result (c.write_table-in-Member.new.builder ≡ with_pieces b ps)) c.go_on-in-Member.ensures c.write_table-in-Member.ensures.written in
    let cut = subst (λ b. IfErr c.write_table-in-Member.result (λ e. IsCut (with_pieces b ps) e)) c.go_on-in-Member.ensures c.write_table-in-Member.ensures.cut in
    record {
      written = told c.write_table-in-Member.result c.write_table-in-Member.new.builder c.args.builder.now _ _ same written;
      cut = told_cut c.write_table-in-Member.result c.args.builder.now _ _ same cut;
    }

pub write_below-returns-in-Tables : goal.write_below-returns-in-Tables
write_below-returns-in-Tables g n c =
    let s = g.K.TableKind.schema in
    let rows = c.in-Tables.rows in
    let here : view c.args.value.now ≡ tables (rows_from (map (λ r. views r.items) rows.items)) =
    ap view c.in-Tables.is ∙ view-Tables rows in
    let of = rw here at c.requires.of_kind in
    let same = (λ i. links_piece link.Table (length (c.deref-in-Tables.ensures.value i))
    ∷ rows_pieces s (c.table_number-in-Tables.ensures i) (rows_from (map (λ r. views r.items) (c.deref-in-Tables.ensures.value i))))
    ∙ (rows_below s c.args.field rows.items of ∙ ap (λ f. field_pieces s c.args.field f) (sym here)) in
    record {
      written = told c.write_rows.result c.write_rows.new.builder c.args.builder.now _ _ same c.write_rows.ensures.written;
      cut = told_cut c.write_rows.result c.args.builder.now _ _ same c.write_rows.ensures.cut;
    }
