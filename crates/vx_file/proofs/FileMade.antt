-- The bytes that are written for a table, by the parts that were made.
use Rattle.std.proofs.Common.{ℕ, ◌≡◌, ◌<◌, ◌≤◌, ◌^◌, List, ◌++◌, length, inl, inr, refl, sym, ap, ◌∙◌, subst}
use Rattle.vx_buffer.specs.Joined.{joined}
use Rattle.vx_forms.specs.Frame.{FitsFrame, frame_end}
use Rattle.vx_flat.specs.Building.{nothing_built}
use Rattle.vx_flat.specs.Layout.{written_layout}
use Rattle.vx_trees.specs.Rose.{node, label, below, roses_of, roses_list}
use Rattle.vx_trees.proofs.Lists.{roses_list-roses_of}
use Rattle.vx_types.specs.Known.{ExtMeaning, IsKnown}
use Rattle.vx_types.specs.Typ.{Typ}
use Rattle.vx_type_wire.specs.Known.{IsRead}
use Rattle.vx_type_wire.specs.Schema.{type_schema}
use Rattle.vx_type_wire.specs.Shown.{ShowsType}
use Rattle.vx_type_wire.specs.TypeTable.{type_table}
use Rattle.vx_type_wire.specs.Written.{RefusesWritingTypeTable}
use Rattle.vx_type_wire.specs.declared.error.TypeWireError.TheVariants as types
use Rattle.vx_array_tree.specs.Sound.{IsSound}
use Rattle.vx_array_tree.specs.Tree.{Tree, Trees}
use Rattle.vx_wire_tree.specs.Session.{SessionMeaning, IsShipped}
use Rattle.vx_wire_tree.specs.Written.{canon}
use Rattle.vx_encodings.specs.Messages.{codec}
use Rattle.vx_serialized.specs.Refusals.{wire_error}
use Rattle.vx_serde.specs.Serializing.{IsReadAgain}
use Rattle.vx_file.specs.declared.error.FileError.{FileError}
use Rattle.vx_file.specs.declared.error.FileError.TheVariants.{OutOfMemory, StoreFault, NotAFile, BadType, NoColumn, BadColumn, NotAStruct, TooLong, Wire}
use Rattle.vx_file.specs.declared.footer.ColumnRange.{ColumnRange}
use Rattle.vx_file.specs.declared.written_columns.ColumnsWritten.{ColumnsWritten}
use Rattle.vx_file.specs.Blobs.{all_blobs}
use Rattle.vx_file.specs.Causes.{RefusesColumns, RefusesWritingFile, RefusesWritingType}
use Rattle.vx_file.specs.ColumnsMade.{AreColumnsMade, RefusesMaking}
use Rattle.vx_file.specs.Footer.{Footer, FileRange, footer_form, file_word}
use Rattle.vx_file.specs.FooterReading.{ranges_of}
use Rattle.vx_file.specs.FooterWriting.{footer_in, RefusesWritingFooter}
use Rattle.vx_file.specs.Spells.{FileSpells}
use Rattle.vx_file.specs.Tables.{IsPlainTable, columns_of}
use Rattle.vx_file.specs.Written.{first_context, blobs_of, written_footer, file_bytes}
use Rattle.vx_file.proofs.FileWritten.{file_spelled}
use Rattle.vx_file.proofs.TableColumns.{HasFields, table_fields}

plain_fields : (t : Tree) → IsPlainTable t → IsSound t → HasFields (label t).dtype
plain_fields (node h ts) plain sound = table_fields h ts plain.body plain.not_null sound

-- What is read of a message is read of its bytes by their other name.
pub read_as : (m n : List ℕ) (d : Typ) → m ≡ n → ((x : ExtMeaning) → IsKnown x d → IsRead (ShowsType n) x d) → (x : ExtMeaning) → IsKnown x d → IsRead (ShowsType m) x d
read_as m n d e read x known =
    let P : List ℕ → Type 0 = λ z. IsRead (ShowsType z) x d in
    subst P (sym e) (read x known)

module _ (s : SessionMeaning) (t : Tree) (ts : List Tree) (ts_are : roses_of ts ≡ below t) where
  columns_are : ts ≡ columns_of t
  columns_are = sym (roses_list-roses_of ts) ∙ ap (λ us. roses_list us) ts_are

  -- A column's refusal is the table's.
  pub columns_refused : (e : FileError) → RefusesMaking s ts e → RefusesWritingFile s t e
  columns_refused OutOfMemory h = tt
  columns_refused StoreFault h = absurd h
  columns_refused NotAFile h = absurd h
  columns_refused BadType h = absurd h
  columns_refused (NoColumn i) h = absurd h
  columns_refused (BadColumn i e) h = absurd h
  columns_refused NotAStruct h = absurd h
  columns_refused TooLong h = absurd h
  columns_refused (Wire e) h =
      let P : List Tree → Type 0 = λ us. RefusesColumns s (wire_error e) us 4 first_context in
      subst P columns_are h

  -- So is that of its type.
  pub type_refused : (d : Typ) (e : FileError) → d ≡ (label t).dtype → RefusesWritingType d e → RefusesWritingFile s t e
  type_refused d OutOfMemory same h = tt
  type_refused d StoreFault same h = absurd h
  type_refused d NotAFile same h = absurd h
  type_refused d BadType same h = absurd h
  type_refused d (NoColumn i) same h = absurd h
  type_refused d (BadColumn i e) same h = absurd h
  type_refused d NotAStruct same h = absurd h
  type_refused d TooLong same h =
      let P : Typ → Type 0 = λ z. RefusesWritingTypeTable z nothing_built types.WireLimit in
      inr (subst P same h)
  type_refused d (Wire e) same h = absurd h

  module _ (w : ColumnsWritten) (made : AreColumnsMade s ts w) (rows : ℕ) (rs : List ColumnRange) (ids : List (List ℕ)) (message : List ℕ) (rows_are : rows ≡ (label t).len) (ranges_are : rs ≡ w.ranges.items) (ids_are : ids ≡ w.ctx.ids)
      (message_is : message ≡ written_layout type_schema (type_table (label t).dtype)) where
    made_of : AreColumnsMade s (columns_of t) w
    made_of =
        let P : List Tree → Type 0 = λ us. AreColumnsMade s us w in
        subst P columns_are made

    -- The footer is that of the table.
    pub footer_made : footer_in rows rs ids message ≡ written_footer s t
    footer_made =
        let footer : ℕ → List FileRange → List (List ℕ) → List ℕ → Footer = λ n us xs m. record { rows = n; ranges = us; ids = xs; type_message = m } in
        let f = written_footer s t in
        ap (λ n. footer n (ranges_of rs) ids message) rows_are
        ∙ ap (λ us. footer f.rows us ids message) (ap (λ us. ranges_of us) ranges_are ∙ made_of.ranges_are)
        ∙ ap (λ xs. footer f.rows f.ranges xs message) (ids_are ∙ made_of.ids)
        ∙ ap (λ m. footer f.rows f.ranges f.ids m) message_is

    -- The file is that of the table.
    pub file_made : (footer out : List ℕ) → footer ≡ footer_form.write (footer_in rows rs ids message) → out ≡ file_word ++ (joined w.buffers ++ frame_end file_word footer) → out ≡ file_bytes s t
    file_made footer out f o =
        o
        ∙ ap (λ z. file_word ++ (z ++ frame_end file_word footer)) made_of.blobs
        ∙ ap (λ z. file_word ++ (all_blobs (blobs_of s t) ++ frame_end file_word z)) (f ∙ ap (λ x. footer_form.write x) footer_made)

    -- It spells what is read back of the table.
    pub made_spells : IsPlainTable t → FitsFrame footer_form (footer_in rows rs ids message) → (d : Typ) → d ≡ (label t).dtype → ((x : ExtMeaning) → IsKnown x d → IsRead (ShowsType message) x d)
        → (out : List ℕ) → out ≡ file_bytes s t
        → IsShipped s → IsReadAgain s t → IsKnown s.ext (label t).dtype → FileSpells out s (canon codec s t)
    made_spells plain fits d types_are read out same ok again known =
        let P : List ℕ → Type 0 = λ z. FileSpells z s (canon codec s t) in
        let Q : Footer → Type 0 = λ f. FitsFrame footer_form f in
        let R : List ℕ → Type 0 = λ m. ShowsType m (label t).dtype in
        let S : Typ → Type 0 = λ z. ShowsType message z in
        let K : Typ → Type 0 = λ z. IsKnown s.ext z in
        let shows = subst S types_are (read s.ext (subst K (sym types_are) known)).shows in
        let has = plain_fields t plain again.sound in
        subst P (sym same) (file_spelled s ok t has.fields again plain.body has.fields_are (subst Q footer_made fits) (subst R message_is shows) known made_of.written)

    -- A footer that is not written is that of the table.
    pub footer_refused : (e : FileError) → RefusesWritingFooter (footer_in rows rs ids message) e → RefusesWritingFile s t e
    footer_refused OutOfMemory h = tt
    footer_refused StoreFault h = absurd h
    footer_refused NotAFile h = absurd h
    footer_refused BadType h = absurd h
    footer_refused (NoColumn i) h = absurd h
    footer_refused (BadColumn i e) h = absurd h
    footer_refused NotAStruct h = absurd h
    footer_refused TooLong h =
        let P : Footer → Type 0 = λ f. 2 ^ 32 ≤ length (footer_form.write f) in
        inl (subst P footer_made h)
    footer_refused (Wire e) h = absurd h
