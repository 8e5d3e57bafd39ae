-- From what the steps of the command `make` ensure to what it makes.
use Rattle.std.proofs.Common.{◌≡◌, ℕ, List, None, Some, Result, Ok, Err, IfOk, sym, ap, subst, ◌∙◌}
use Rattle.std.proofs.lemmas.Result.{IfOk-weaker}
use Rattle.vx_buffer.specs.Buffer.{Buffer}
use Rattle.vx_buffer.specs.Joined.{joined}
use Rattle.vx_flat.specs.Building.{nothing_built}
use Rattle.vx_trees.specs.Rose.{label}
use Rattle.vx_types.specs.Typ.{Typ}
use Rattle.vx_type_wire.specs.Known.{ExtMeaning, IsKnown, IsRead, no_readers}
use Rattle.vx_type_wire.specs.Shown.{ShowsType}
use Rattle.vx_type_wire.specs.Written.{RefusesWritingTypeTable}
use Rattle.vx_type_wire.specs.declared.error.TypeWireError.{TypeWireError}
use Rattle.vx_array_tree.specs.Tree.{Tree}
use Rattle.vx_wire_tree.specs.Context.{Context, grown}
use Rattle.vx_wire_tree.specs.Session.{SessionMeaning}
use Rattle.vx_wire_tree.specs.Written.{canon}
use Rattle.vx_encodings.specs.Messages.{codec}
use Rattle.vx_serde.specs.declared.options.SerializeOptions.{SerializeOptions}
use Rattle.vx_serialized.specs.declared.error.WireError.{WireError}
use Rattle.vx_serde.specs.Causes.{RefusesArray}
use Rattle.vx_serde.specs.Request.{CanRecode, Request, request_for}
use Rattle.vx_serde.specs.Serializing.{IsSerialized, IsWrittenBlob}
use Rattle.vx_serde.specs.Spells.{Spells}
use Rattle.vx_generator.specs.Made.{data_len, made, made_type}
use Rattle.vx_generator.specs.Summary.{line_of, summary}
use Rattle.vx_generator.proofs.Laws.{made_dtype, made_len, made_summary}
use Rattle.vxcat_blobs.specs.declared.make.steps.WrittenTable.{WrittenTable}
use Rattle.vxcat_blobs.specs.declared.recode.steps.Outputs.{Outputs}
use Rattle.vxcat_store.specs.declared.status.Status.{Status}
use Rattle.vxcat_store.specs.declared.status.Status.TheVariants.{OutOfMemory}
use Rattle.vxcat_blobs.specs.MakeCommand.{make_options, make_session, no_ids}
use Rattle.vxcat_blobs.specs.MakeViews.{IsTable, IsTableWritten, IsWrittenAgain}
use Rattle.vxcat_blobs.specs.RecodeViews.{AreMade}
use Rattle.vxcat_store.specs.Statuses.{blob_status, type_status}
use Rattle.vxcat_blobs.proofs.Tables.{table_again, table_grows, table_ids, table_memory, table_own, table_spelled, type_known, type_memory}

-- What holds of each table of a seed holds of a table.
of_table : (P : Tree → Type 0) (array : Tree) (is : IsTable array) → P (made is.seed is.rows) → P array
of_table P array is p = subst P (sym is.array_is) p

-- ---- the type

table_dtype : (array : Tree) → IsTable array → (label array).dtype ≡ made_type
table_dtype array is = ap (λ (z : Tree). (label z).dtype) is.array_is ∙ made_dtype is.seed is.rows

pub type_read : (array : Tree) → IsTable array → (t : Typ) (m : List ℕ) → t ≡ (label array).dtype → ((s : ExtMeaning) → IsKnown s t → IsRead (ShowsType m) s t) → IsRead (ShowsType m) no_readers (label array).dtype
type_read array is t m e back =
    let known = subst (λ (z : Typ). IsKnown no_readers z) (sym (e ∙ table_dtype array is)) type_known in
    subst (λ (z : Typ). IsRead (ShowsType m) no_readers z) e (back no_readers known)

pub type_refused : (array : Tree) → IsTable array → (t : Typ) → t ≡ (label array).dtype → (e : TypeWireError) → RefusesWritingTypeTable t nothing_built e → (status : Status) → status ≡ type_status e → status ≡ OutOfMemory
type_refused array is t same e u status s = s ∙ ap type_status (type_memory e (subst (λ (z : Typ). RefusesWritingTypeTable z nothing_built e) (same ∙ table_dtype array is) u))

-- ---- the blob

module _ (array : Tree) (is : IsTable array) (s : SessionMeaning) (c : Context) (o : SerializeOptions) (session : s ≡ make_session) (context : c ≡ no_ids) (options : o ≡ make_options) where
  -- The only refusal of a table is allocation failure.
  pub once_refused : (e : WireError) → RefusesArray s array c o e → (status : Status) → status ≡ blob_status e → status ≡ OutOfMemory
  once_refused e r status same =
      let a = subst (λ (z : SessionMeaning). RefusesArray z array c o e) session r in
      let b = subst (λ (z : Tree). RefusesArray make_session z c o e) is.array_is a in
      let d = subst (λ (z : Context). RefusesArray make_session (made is.seed is.rows) z o e) context b in
      let f = subst (λ (z : SerializeOptions). RefusesArray make_session (made is.seed is.rows) no_ids z e) options d in
      same ∙ ap blob_status (table_memory is.seed is.rows is.few e f)

  pub once_written : (after : Context) (buffers : List Buffer) → IsSerialized s array o c after buffers → (result : Result WrittenTable Status)
      → IfOk result (λ w. w.blob.bytes ≡ joined buffers) → IfOk result (λ w. w.ids ≡ after.ids) → IfOk result (IsTableWritten array)
  once_written after buffers x (Ok w) blob ids =
      let a = subst (λ (z : SessionMeaning). IsSerialized z array o c after buffers) session x in
      let b = subst (λ (z : Context). IsSerialized make_session array o z after buffers) context a in
      let d = subst (λ (z : SerializeOptions). IsSerialized make_session array z no_ids after buffers) options b in
      record { buffers = buffers; after = after; serialized = d; blob_is = blob; ids_are = ids }
  once_written after buffers x (Err e) blob ids = tt

-- ---- the blob once more

module _ (array : Tree) (is : IsTable array) (w : WrittenTable) (x : IsTableWritten array w) (bytes : List ℕ) (d : Typ) (n : ℕ) (ids : List (List ℕ)) (c : Context) (s : SessionMeaning) (o : SerializeOptions)
    (bytes_are : bytes ≡ w.blob.bytes) (d_is : d ≡ (label array).dtype) (n_is : n ≡ (label array).len) (ids_are : ids ≡ w.ids) (context : c ≡ no_ids) (session : s ≡ make_session) (options : o ≡ make_options) where
  asked : request_for bytes d n ids c s o ≡ request_for (joined x.buffers) (label array).dtype (label array).len x.after.ids no_ids make_session make_options
  asked = λ k. request_for ((bytes_are ∙ x.blob_is) k) (d_is k) (n_is k) ((ids_are ∙ x.ids_are) k) (context k) (session k) (options k)

  can : CanRecode (request_for (joined x.buffers) (label array).dtype (label array).len x.after.ids no_ids make_session make_options)
  can =
      let P : Tree → Type 0 = λ z. IsSerialized make_session z make_options no_ids x.after x.buffers → CanRecode (request_for (joined x.buffers) (label z).dtype (label z).len x.after.ids no_ids make_session make_options) in
      of_table P array is (λ y. table_again is.seed is.rows is.few x.after x.buffers y) x.serialized

  spelled : Spells (joined x.buffers) x.after.ids (label array).dtype (label array).len make_session array
  spelled =
      let P : Tree → Type 0 = λ z. IsSerialized make_session z make_options no_ids x.after x.buffers → Spells (joined x.buffers) x.after.ids (label z).dtype (label z).len make_session z in
      of_table P array is (λ y. table_spelled is.seed is.rows is.few x.after x.buffers y) x.serialized

  -- It can be recoded.
  pub again_can : CanRecode (request_for bytes d n ids c s o)
  again_can = subst CanRecode (sym asked) can

  grows : grown codec make_session no_ids array ≡ Some (record { ids = table_ids; allowed = None })
  grows = of_table (λ z. grown codec make_session no_ids z ≡ Some (record { ids = table_ids; allowed = None })) array is (table_grows is.seed is.rows)

  own : canon codec make_session array ≡ array
  own = of_table (λ z. canon codec make_session z ≡ z) array is (table_own is.seed is.rows is.few)

  again : (outputs : Outputs) → AreMade (request_for (joined x.buffers) (label array).dtype (label array).len x.after.ids no_ids make_session make_options) outputs → IsWrittenAgain array outputs
  again outputs m =
      let same : array ≡ m.made.array = m.faithful.the_one array spelled in
      let blob = subst (λ (z : Tree). IsWrittenBlob make_session z make_options no_ids m.made.context m.made.buffers) (m.faithful.own ∙ sym same) m.recoded.serialized.blob in
      let context_is : m.made.context ≡ record { ids = table_ids; allowed = None } = (let e = sym blob.grown_is ∙ grows in cc) in
      let ids_is : outputs.ids ≡ table_ids = m.holds.ids_are ∙ ap (λ (z : Context). z.ids) context_is in
      let again_spelled = subst (λ (z : Tree). Spells (joined m.made.buffers) m.made.context.ids (label array).dtype (label array).len make_session (canon codec make_session z)) (sym same) m.faithful.again in
      let of_own = subst (λ (z : Tree). Spells (joined m.made.buffers) m.made.context.ids (label array).dtype (label array).len make_session z) own again_spelled in
      let of_ids = subst (λ (z : List (List ℕ)). Spells (joined m.made.buffers) z (label array).dtype (label array).len make_session array) (sym m.holds.ids_are) of_own in
      record {
        written = ap (λ (z : List Buffer). joined z) m.holds.buffers_are ∙ blob.written;
        ids_grown = grows ∙ ap (λ (z : List (List ℕ)). Some (record { ids = z; allowed = None })) (sym ids_is);
        spelled = subst (λ (z : List Buffer). Spells (joined z) outputs.ids (label array).dtype (label array).len make_session array) (sym m.holds.buffers_are) of_ids;
      }

  -- What was recoded of it is the same blob again.
  pub again_written : (result : Result Outputs Status) → IfOk result (AreMade (request_for bytes d n ids c s o)) → IfOk result (IsWrittenAgain array)
  again_written result made =
      IfOk-weaker result _ _ again (subst (λ (r : Request). IfOk result (AreMade r)) asked made)

-- ---- the line

pub line_of_table : (array : Tree) → IsTable array → (n data_is : ℕ) → n ≡ (label array).len → data_is ≡ data_len array → line_of n 9 7 data_is ≡ summary array
line_of_table array is n sum len_is sum_is =
    (λ k. line_of (len_is k) 9 7 (sum_is k)) ∙ of_table (λ z. line_of (label z).len 9 7 (data_len z) ≡ summary z) array is
    (ap (λ m. line_of m 9 7 (data_len (made is.seed is.rows))) (made_len is.seed is.rows) ∙ sym (made_summary is.seed is.rows))
