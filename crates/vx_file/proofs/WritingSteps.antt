-- The steps of the loop that writes columns: what was written so far, before what is still to be written, is the whole.
use Rattle.std.proofs.Common.{ℕ, ◌≡◌, ◌+◌, List, [], ◌∷◌, ◌++◌, length, refl, sym, ap, ◌∙◌, subst, append_assoc, inl, inr}
use Rattle.std.proofs.lemmas.List.{append-nil}
use Rattle.vx_array_tree.specs.Tree.{Tree}
use Rattle.vx_wire_tree.specs.Context.{Context}
use Rattle.vx_wire_tree.specs.Session.{SessionMeaning}
use Rattle.vx_serialized.specs.Refusals.{wire_error}
use Rattle.vx_serialized.specs.declared.error.WireError.{WireError}
use Rattle.vx_file.specs.declared.error.FileError.{FileError}
use Rattle.vx_file.specs.declared.error.FileError.TheVariants.{OutOfMemory, StoreFault, NotAFile, BadType, NoColumn, BadColumn, NotAStruct, TooLong, Wire}
use Rattle.vx_file.specs.Blobs.{ranges_from, all_blobs}
use Rattle.vx_file.specs.Causes.{RefusesColumns, RefusesWritingColumn}
use Rattle.vx_file.specs.ColumnsMade.{RefusesMaking}
use Rattle.vx_file.specs.Footer.{FileRange}
use Rattle.vx_file.specs.Written.{column_blob, context_after, first_context, context_after_all, column_blobs}
use Rattle.vx_file.specs.WrittenColumns.{IsWrittenColumn, AreWrittenColumns}

-- The bytes and ranges of the columns so far, and where and under which context the others are written.
pub record LeadsTo (s : SessionMeaning) (ts rest : List Tree) (bytes : List ℕ) (ranges : List FileRange) (offset : ℕ) (ctx : Context) : Type 0 where
  pub blobs : bytes ++ all_blobs (column_blobs s rest offset ctx) ≡ all_blobs (column_blobs s ts 4 first_context)
  pub ranges_are : ranges ++ ranges_from offset (column_blobs s rest offset ctx) ≡ ranges_from 4 (column_blobs s ts 4 first_context)
  pub context : context_after_all s rest offset ctx ≡ context_after_all s ts 4 first_context
  pub written : AreWrittenColumns s rest offset ctx → AreWrittenColumns s ts 4 first_context
  pub refused : (e : WireError) → RefusesColumns s e rest offset ctx → RefusesColumns s e ts 4 first_context

module _ (s : SessionMeaning) (ts : List Tree) where
  -- Nothing is written yet.
  pub leads_begun : (rest : List Tree) (bytes : List ℕ) (ranges : List FileRange) (ctx : Context) → rest ≡ ts → bytes ≡ [] → ranges ≡ [] → ctx ≡ first_context → LeadsTo s ts rest bytes ranges 4 ctx
  leads_begun rest bytes ranges ctx e b r c =
      let P : List Tree → Type 0 = λ z. LeadsTo s ts z bytes ranges 4 ctx in
      let Q : List ℕ → Type 0 = λ z. LeadsTo s ts ts z ranges 4 ctx in
      let R : List FileRange → Type 0 = λ z. LeadsTo s ts ts [] z 4 ctx in
      let C : Context → Type 0 = λ z. LeadsTo s ts ts [] [] 4 z in
      let all : LeadsTo s ts ts [] [] 4 first_context
      = record { blobs = refl; ranges_are = refl; context = refl; written = λ w. w; refused = λ x u. u } in
      subst P (sym e) (subst Q (sym b) (subst R (sym r) (subst C (sym c) all)))

  -- One more column is written.
  leads_next : (t : Tree) (rest : List Tree) (bytes : List ℕ) (ranges : List FileRange) (offset : ℕ) (ctx : Context) → LeadsTo s ts (t ∷ rest) bytes ranges offset ctx → IsWrittenColumn s t offset ctx
      → LeadsTo s ts rest (bytes ++ column_blob s t offset ctx) (ranges ++ record { start = offset; len = length (column_blob s t offset ctx) } ∷ []) (offset + length (column_blob s t offset ctx)) (context_after s t offset ctx)
  leads_next t rest bytes ranges offset ctx x column =
      let blob = column_blob s t offset ctx in
      let after = column_blobs s rest (offset + length blob) (context_after s t offset ctx) in
      record {
        blobs = append_assoc bytes blob (all_blobs after) ∙ x.blobs;
        ranges_are = append_assoc ranges (record { start = offset; len = length blob } ∷ []) (ranges_from (offset + length blob) after) ∙ x.ranges_are;
        context = x.context;
        written = λ w. x.written (column, w);
        refused = λ e u. x.refused e (inr u);
      }

  pub leads_step : (t : Tree) (left rest : List Tree) (bytes more : List ℕ) (ranges further : List FileRange) (offset n : ℕ) (ctx after : Context) → LeadsTo s ts left bytes ranges offset ctx → left ≡ t ∷ rest → IsWrittenColumn s t offset ctx
      → more ≡ bytes ++ column_blob s t offset ctx → n ≡ length (column_blob s t offset ctx) → further ≡ ranges ++ record { start = offset; len = n } ∷ [] → after ≡ context_after s t offset ctx
      → LeadsTo s ts rest more further (offset + n) after
  leads_step t left rest bytes more ranges further offset n ctx after x e column b l r c =
      let P : List Tree → Type 0 = λ z. LeadsTo s ts z bytes ranges offset ctx in
      let next = leads_next t rest bytes ranges offset ctx (subst P e x) column in
      let blob = column_blob s t offset ctx in
      let A : List ℕ → Type 0 = λ z. LeadsTo s ts rest z further (offset + n) after in
      let B : Context → Type 0 = λ z. LeadsTo s ts rest (bytes ++ blob) further (offset + n) z in
      let C : List FileRange → Type 0 = λ z. LeadsTo s ts rest (bytes ++ blob) z (offset + n) (context_after s t offset ctx) in
      let D : ℕ → Type 0 = λ m. LeadsTo s ts rest (bytes ++ blob) (ranges ++ record { start = offset; len = m } ∷ []) (offset + m) (context_after s t offset ctx) in
      subst A (sym b) (subst B (sym c) (subst C (sym r) (subst D (sym l) next)))

  -- All columns are written.
  pub leads_blobs : (rest : List Tree) (bytes : List ℕ) (ranges : List FileRange) (offset : ℕ) (ctx : Context) → LeadsTo s ts rest bytes ranges offset ctx → rest ≡ [] → bytes ≡ all_blobs (column_blobs s ts 4 first_context)
  leads_blobs rest bytes ranges offset ctx x e =
      let P : List Tree → Type 0 = λ z. LeadsTo s ts z bytes ranges offset ctx in
      sym (append-nil bytes) ∙ (subst P e x).blobs

  pub leads_ranges : (rest : List Tree) (bytes : List ℕ) (ranges : List FileRange) (offset : ℕ) (ctx : Context) → LeadsTo s ts rest bytes ranges offset ctx → rest ≡ [] → ranges ≡ ranges_from 4 (column_blobs s ts 4 first_context)
  leads_ranges rest bytes ranges offset ctx x e =
      let P : List Tree → Type 0 = λ z. LeadsTo s ts z bytes ranges offset ctx in
      sym (append-nil ranges) ∙ (subst P e x).ranges_are

  pub leads_context : (rest : List Tree) (bytes : List ℕ) (ranges : List FileRange) (offset : ℕ) (ctx : Context) → LeadsTo s ts rest bytes ranges offset ctx → rest ≡ [] → ctx ≡ context_after_all s ts 4 first_context
  leads_context rest bytes ranges offset ctx x e =
      let P : List Tree → Type 0 = λ z. LeadsTo s ts z bytes ranges offset ctx in
      (subst P e x).context

  pub leads_written : (rest : List Tree) (bytes : List ℕ) (ranges : List FileRange) (offset : ℕ) (ctx : Context) → LeadsTo s ts rest bytes ranges offset ctx → rest ≡ [] → AreWrittenColumns s ts 4 first_context
  leads_written rest bytes ranges offset ctx x e =
      let P : List Tree → Type 0 = λ z. LeadsTo s ts z bytes ranges offset ctx in
      (subst P e x).written tt

  -- The next column is not written.
  pub leads_refused : (t : Tree) (left rest : List Tree) (bytes : List ℕ) (ranges : List FileRange) (offset : ℕ) (ctx : Context) → LeadsTo s ts left bytes ranges offset ctx → left ≡ t ∷ rest → (e : FileError) → RefusesWritingColumn s t offset ctx e
      → RefusesMaking s ts e
  leads_refused t left rest bytes ranges offset ctx x e OutOfMemory u = tt
  leads_refused t left rest bytes ranges offset ctx x e (Wire r) u =
      let P : List Tree → Type 0 = λ z. LeadsTo s ts z bytes ranges offset ctx in
      (subst P e x).refused (wire_error r) (inl u)
  leads_refused t left rest bytes ranges offset ctx x e StoreFault u = absurd u
  leads_refused t left rest bytes ranges offset ctx x e NotAFile u = absurd u
  leads_refused t left rest bytes ranges offset ctx x e BadType u = absurd u
  leads_refused t left rest bytes ranges offset ctx x e (NoColumn i) u = absurd u
  leads_refused t left rest bytes ranges offset ctx x e (BadColumn i r) u = absurd u
  leads_refused t left rest bytes ranges offset ctx x e NotAStruct u = absurd u
  leads_refused t left rest bytes ranges offset ctx x e TooLong u = absurd u
