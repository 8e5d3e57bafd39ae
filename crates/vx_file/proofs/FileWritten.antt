-- What is written for a table is a column file that spells what is read back of the table.
use Rattle.std.proofs.Common.{ℕ, ◌≡◌, ◌+◌, List, [], ◌∷◌, Some, length, map, refl, sym, subst, arith}
use Rattle.std.specs.List.{AllByRecursion}
use Rattle.vx_forms.specs.Frame.{FitsFrame}
use Rattle.vx_forms.proofs.LawsOfFrames.{framed_written}
use Rattle.vx_flat.specs.Layout.{written_layout}
use Rattle.vx_trees.specs.Rose.{node, label, roses_of, roses_list}
use Rattle.vx_trees.specs.Everywhere.{EverywhereBelow}
use Rattle.vx_trees.proofs.Lists.{roses_of-roses_list}
use Rattle.vx_types.specs.Known.{IsKnown}
use Rattle.vx_types.specs.Typ.{Typ}
use Rattle.vx_type_wire.specs.Schema.{type_schema}
use Rattle.vx_type_wire.specs.Shown.{ShowsType}
use Rattle.vx_type_wire.specs.TypeTable.{type_table}
use Rattle.vx_array_tree.specs.Body.{Body}
use Rattle.vx_array_tree.specs.Body as B
use Rattle.vx_array_tree.specs.Sound.{IsSoundNode, IsSound}
use Rattle.vx_array_tree.specs.Tree.{Tree, Trees}
use Rattle.vx_wire_tree.specs.Context.{Context}
use Rattle.vx_wire_tree.specs.KnownTypes.{KnowsNode}
use Rattle.vx_wire_tree.specs.ReadBack.{AreUnread, IsUnreadBy}
use Rattle.vx_wire_tree.specs.Session.{SessionMeaning, IsShipped}
use Rattle.vx_wire_tree.specs.Wire.{ids_in}
use Rattle.vx_wire_tree.specs.Written.{wire, canon}
use Rattle.vx_encodings.specs.Messages.{codec}
use Rattle.vx_serde.specs.Serializing.{IsReadAgain}
use Rattle.vx_serde.specs.Spells.{Spells}
use Rattle.vx_serde.specs.Taking.{as_written}
use Rattle.vx_serde.proofs.LawsOfReading.{spelled_longer}
use Rattle.vx_file.specs.Blobs.{ranges_from, all_blobs, HoldBlobs}
use Rattle.vx_file.specs.Footer.{footer_form, file_word}
use Rattle.vx_file.specs.Shows.{File, field_types}
use Rattle.vx_file.specs.Spells.{SpellsColumn, SpellColumns, FileSpells}
use Rattle.vx_file.specs.Tables.{columns_of}
use Rattle.vx_file.specs.Written.{options_at, column_blob, context_after, first_context, context_after_all, column_blobs, blobs_of, written_footer, file_bytes}
use Rattle.vx_file.specs.WrittenColumns.{AreWrittenColumns}
use Rattle.vx_file.proofs.FooterForm.{footer_lawful}
use Rattle.vx_file.proofs.LongerIds.{Extends, extends_itself, extends_twice, with_ids_extends}
use Rattle.vx_file.proofs.PlacedBlobs.{blobs_stand, ranges_within}
use Rattle.vx_file.proofs.TableCanon.{table_canon}
use Rattle.vx_file.proofs.TableColumns.{AreColumns, table_columns}

-- A blob spells the same with a longer list of identifiers.
spelled_with : (blob : List ℕ) (ids longer : List (List ℕ)) (d : Typ) (n : ℕ) (s : SessionMeaning) (t : Tree) → Extends ids longer → Spells blob ids d n s t → Spells blob longer d n s t
spelled_with blob ids longer d n s t x spells =
    let P : List (List ℕ) → Type 0 = λ z. Spells blob z d n s t in
    subst P (sym x.is) (spelled_longer blob ids x.more d n s t spells)

-- What is read again of a table is read again of its columns.
module _ (s : SessionMeaning) where
  each_again : (ts : List Tree) → EverywhereBelow IsSoundNode (roses_of ts) → EverywhereBelow (KnowsNode s.ext) (roses_of ts) → AreUnread s (roses_of ts) → AllByRecursion (IsReadAgain s) ts
  each_again [] sound known unread = tt
  each_again (t ∷ ts) sound known unread = (record { sound = sound.0; known = known.0; unread = unread.0 }, each_again ts sound.1 known.1 unread.1)

  pub columns_again : (t : Tree) → (label t).body ≡ B.struct → IsReadAgain s t → AllByRecursion (IsReadAgain s) (columns_of t)
  columns_again (node h ts) e again =
      let B : Body → Type 0 = λ b. IsUnreadBy s b (AreUnread s ts) in
      let all = roses_of-roses_list ts in
      let P : Trees → Type 0 = λ us. EverywhereBelow IsSoundNode us in
      let Q : Trees → Type 0 = λ us. EverywhereBelow (KnowsNode s.ext) us in
      let R : Trees → Type 0 = λ us. AreUnread s us in
      each_again (roses_list ts) (subst P (sym all) again.sound.1) (subst Q (sym all) again.known.1) (subst R (sym all) (subst B e again.unread))

  after_all_extends : (ts : List Tree) (offset : ℕ) (ctx : Context) → Extends ctx.ids (context_after_all s ts offset ctx).ids
  after_all_extends [] offset ctx = extends_itself ctx.ids
  after_all_extends (t ∷ ts) offset ctx =
      let next = context_after s t offset ctx in
      let place = offset + length (column_blob s t offset ctx) in
      extends_twice ctx.ids next.ids (context_after_all s ts place next).ids
      (with_ids_extends ctx.ids (ids_in (wire codec s (as_written s (options_at offset) t)))) (after_all_extends ts place next)

  -- Each blob spells its column where it stands, with the identifiers after all.
  columns_spelled : IsShipped s → (bytes : List ℕ) (n : ℕ) (ids : List (List ℕ)) (ts : List Tree) (fields : List Typ) (offset : ℕ) (ctx : Context) → Extends (context_after_all s ts offset ctx).ids ids
      → AreWrittenColumns s ts offset ctx → AllByRecursion (IsReadAgain s) ts → AreColumns n fields ts → HoldBlobs bytes (ranges_from offset (column_blobs s ts offset ctx)) (column_blobs s ts offset ctx)
      → SpellColumns bytes ids n s (ranges_from offset (column_blobs s ts offset ctx)) fields (map (λ t. canon codec s t) ts)
  columns_spelled ok bytes n ids [] [] offset ctx more written again are hold = tt
  columns_spelled ok bytes n ids [] (d ∷ ds) offset ctx more written again are hold = absurd are
  columns_spelled ok bytes n ids (t ∷ ts) [] offset ctx more written again are hold = absurd are
  columns_spelled ok bytes n ids (t ∷ ts) (d ∷ ds) offset ctx more written again are hold =
      let blob = column_blob s t offset ctx in
      let next = context_after s t offset ctx in
      let after = context_after_all s ts (offset + length blob) next in
      let longer = extends_twice next.ids after.ids ids (after_all_extends ts (offset + length blob) next) more in
      let own = spelled_with blob next.ids ids (label t).dtype (label t).len s (canon codec s t) longer (written.0.spelled ok again.0) in
      let P : List ℕ → Type 0 = λ z. SpellsColumn z ids d n s (canon codec s t) in
      let Q : Typ → Type 0 = λ e. Spells blob ids e (label t).len s (canon codec s t) in
      let R : ℕ → Type 0 = λ m. Spells blob ids d m s (canon codec s t) in (
        subst P (sym hold.0) (record { within_limits = written.0.within_limits; spelled = subst R are.1 (subst Q are.0 own) }),
        columns_spelled ok bytes n ids ts ds (offset + length blob) next more written.1 again.1 are.2 hold.1,
      )

  -- A table's file, where its footer can be written, its type is shown and known, and its columns are written.
  pub file_spelled : IsShipped s → (t : Tree) (fields : List Typ) → IsReadAgain s t → (label t).body ≡ B.struct → field_types (label t).dtype ≡ Some fields → FitsFrame footer_form (written_footer s t)
      → ShowsType (written_layout type_schema (type_table (label t).dtype)) (label t).dtype → IsKnown s.ext (label t).dtype
      → AreWrittenColumns s (columns_of t) 4 first_context → FileSpells (file_bytes s t) s (canon codec s t)
  file_spelled ok (node h ts) fields again body is fits shows known written =
      let t : Tree = node h ts in
      let blobs = blobs_of s t in
      let footer = written_footer s t in
      let columns = roses_list ts in
      let all : roses_of columns ≡ ts = roses_of-roses_list ts in
      let S : Trees → Type 0 = λ us. IsSound (node h us) in
      let are : AreColumns h.len fields columns = table_columns h columns fields body is (subst S (sym all) again.sound) in
      let file : File = record { rows = h.len; ranges = footer.ranges; ids = footer.ids; dtype = h.dtype } in
      let hold : HoldBlobs (file_bytes s t) footer.ranges blobs = blobs_stand file_word blobs _ in
      record {
        file = file;
        shows = record {
          message = footer.type_message;
          offset = length file_word + length (all_blobs blobs);
          form = record {
            framed = framed_written file_word footer_form footer_lawful refl (all_blobs blobs) footer fits;
            within = ranges_within 4 (4 + length (all_blobs blobs)) blobs (omega (arith)) (omega (arith));
          };
          dtype = shows;
        };
        known = known;
        columns = map (λ u. canon codec s u) columns;
        has_columns = record {
          fields = fields;
          fields_are = is;
          spelled = columns_spelled ok (file_bytes s t) h.len footer.ids columns fields 4 first_context (extends_itself footer.ids) written (columns_again t body again) are hold;
        };
        table = table_canon codec s t h.dtype h.len columns again.sound (record { dtype = refl; len = refl; body = body; below_is = sym all });
      }
