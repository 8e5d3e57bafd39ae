-- From what `recode` ensures to what the program promises of its inputs.
use Rattle.std.proofs.Common.{◌≡◌, ℕ, List, Option, Some, None, inl, inr, refl, Result, Ok, Err, IfOk, IfErr, sym, ap, subst, ◌∙◌}
use Rattle.std.proofs.lemmas.Result.{IfOk-weaker, IfErr-weaker}
use Rattle.vx_types.specs.declared.dtype.DType.{DType}
use Rattle.vx_types.specs.Seen.{typ}
use Rattle.vx_types.specs.Typ.{Typ}
use Rattle.vx_types.specs.Known.{ExtMeaning}
use Rattle.vx_type_wire.specs.Known.{IsRead}
use Rattle.vx_type_wire.specs.Shown.{ShowsType}
use Rattle.vx_type_wire.proofs.LawsTypes.{one_type_shown}
use Rattle.vx_wire_tree.specs.Context.{Context}
use Rattle.vx_wire_tree.specs.Session.{SessionMeaning}
use Rattle.vx_serde.specs.declared.options.SerializeOptions.{SerializeOptions}
use Rattle.vx_serialized.specs.declared.error.WireError.{WireError}
use Rattle.vx_serialized.specs.declared.error.WireError.TheVariants as wire
use Rattle.vx_serde.specs.Causes.{Refuses}
use Rattle.vx_serde.specs.Recoding.{IsFaithful, IsRecoded, Product}
use Rattle.vx_serde.specs.Request.{CanRecode, Request, request_for}
use Rattle.vxcat_blobs.specs.declared.recode.steps.Outputs.{Outputs}
use Rattle.vxcat_store.specs.declared.status.Status.{Status}
use Rattle.vxcat_store.specs.declared.status.Status.TheVariants.{Done, OutOfMemory, NoCommand, LoadFault, SaveFault, WriteFault, BadType, BadIds, BadExpression, Refused}
use Rattle.vxcat_store.specs.IdFile.{ReadsIds}
use Rattle.vxcat_blobs.specs.Recode.{AreRead, CanRecodeInputs, ReadsAllowed, RefusesInputs, Loaded, Recode, Terms, asked_by, context_of, padded_at, readers_of, session_of}
use Rattle.vxcat_store.proofs.Laws.{lines_unique}
use Rattle.vxcat_blobs.specs.RecodeViews.{AreMade, AreOutputs, RefusesBlob, RefusesIdFile, RefusesTypeFile}
use Rattle.vxcat_store.specs.Statuses.{blob_status}

-- What holds of a request for bytes holds of a request for equal bytes.
pub asked_alike : (P : Request → Type 0) (bytes blob : List ℕ) (dtype : Typ) (len : ℕ) (ids : List (List ℕ)) (context : Context) (session : SessionMeaning) (options : SerializeOptions)
    → bytes ≡ blob → P (request_for bytes dtype len ids context session options) → P (request_for blob dtype len ids context session options)
asked_alike P bytes blob dtype len ids context session options e p = subst (λ (l : List ℕ). P (request_for l dtype len ids context session options)) e p

-- The outputs are what was made.
pub outputs_made : (asked : Request) (made : Product) (result : Result Outputs Status) → IsRecoded asked made → IsFaithful asked made
    → IfOk result (λ outputs. outputs.array ≡ made.array) → IfOk result (λ outputs. outputs.buffers ≡ made.buffers) → IfOk result (λ outputs. outputs.ids ≡ made.context.ids) → IfOk result (AreMade asked)
outputs_made asked made (Ok outputs) recoded faithful array buffers ids =
    record { made = made; recoded = recoded; faithful = faithful; holds = record { array_is = array; buffers_are = buffers; ids_are = ids } }
outputs_made asked made (Err status) recoded faithful array buffers ids = tt

-- Allocation failure needs no cause.
pub memory_refused : (asked : Request) (result : Result Outputs Status) → IfErr result (λ status. status ≡ OutOfMemory) → IfErr result (λ status. RefusesBlob status asked)
memory_refused asked (Ok made) memory = tt
memory_refused asked (Err status) memory = subst (λ (s : Status). RefusesBlob s asked) (sym memory) tt

-- A refusal that has its cause gives its status.
pub refused : (error : WireError) (asked : Request) → Refuses asked error → RefusesBlob (blob_status error) asked
refused wire.OutOfMemory asked cause = tt
refused wire.TooShort asked cause = cause
refused wire.BadTable asked cause = cause
refused wire.TableLimit asked cause = cause
refused wire.BadAlignment asked cause = cause
refused wire.Compressed asked cause = cause
refused wire.OutOfBounds asked cause = cause
refused wire.UnknownIndex asked cause = cause
refused wire.UnknownEncoding asked cause = cause
refused wire.BadMetadata asked cause = cause
refused wire.BadShape asked cause = cause
refused wire.BadContent asked cause = cause
refused wire.ForeignControl asked cause = cause
refused wire.BadStats asked cause = cause
refused wire.NotPermitted asked cause = cause
refused wire.WireLimit asked cause = cause
refused wire.NotRegistered asked cause = cause
refused wire.NotSerializable asked cause = cause
refused wire.UndeclaredId asked cause = cause
refused wire.PluginRefused asked cause = cause

not_memory : BadType ≡ OutOfMemory → ⊥
not_memory e = absurd (cc)

-- A type that is read of bytes by readers is read of the same bytes by the same readers.
pub read_alike : (bytes others : List ℕ) (x y : ExtMeaning) (t : Typ) → bytes ≡ others → x ≡ y → IsRead (ShowsType bytes) x t → IsRead (ShowsType others) y t
read_alike bytes others x y t e p r = subst (λ (z : ExtMeaning). IsRead (ShowsType others) z t) p (subst (λ (m : List ℕ). IsRead (ShowsType m) x t) e r)

-- So is the type that a call gives.
pub given_alike : (bytes others : List ℕ) (x : ExtMeaning) (result : Result DType Status) → bytes ≡ others → IfOk result (λ d. IsRead (ShowsType bytes) x (typ d))
    → IfOk result (λ d. IsRead (ShowsType others) x (typ d))
given_alike bytes others x result e p = subst (λ (m : List ℕ). IfOk result (λ d. IsRead (ShowsType m) x (typ d))) e p

-- A type file that is refused, but for allocation failure, is read as no type.
pub type_cause : (status : Status) (line : Recode) (loaded : Loaded) (bytes : List ℕ) (x : ExtMeaning) → bytes ≡ loaded.type_bytes → x ≡ readers_of line.settings → RefusesTypeFile status
    → ((t : Typ) → IsRead (ShowsType bytes) x t → status ≡ OutOfMemory) → RefusesInputs status line loaded
type_cause OutOfMemory line loaded bytes x e p s complete = tt
type_cause BadType line loaded bytes x e p s complete = λ t r. not_memory (complete t (read_alike loaded.type_bytes bytes (readers_of line.settings) x t (sym e) (sym p) r))
type_cause Done line loaded bytes x e p s complete = absurd s
type_cause NoCommand line loaded bytes x e p s complete = absurd s
type_cause BadExpression line loaded bytes x e p s complete = absurd s
type_cause LoadFault line loaded bytes x e p s complete = absurd s
type_cause SaveFault line loaded bytes x e p s complete = absurd s
type_cause WriteFault line loaded bytes x e p s complete = absurd s
type_cause BadIds line loaded bytes x e p s complete = absurd s
type_cause (Refused error) line loaded bytes x e p s complete = absurd s

-- Where what was loaded can be recoded, the only refusal of its type file is allocation failure.
pub type_memory : (status : Status) (line : Recode) (loaded : Loaded) (bytes : List ℕ) (x : ExtMeaning) → bytes ≡ loaded.type_bytes → x ≡ readers_of line.settings
    → ((t : Typ) → IsRead (ShowsType bytes) x t → status ≡ OutOfMemory) → CanRecodeInputs line loaded → status ≡ OutOfMemory
type_memory status line loaded bytes x e p complete can =
    complete can.terms.dtype (read_alike loaded.type_bytes bytes (readers_of line.settings) x can.terms.dtype (sym e) (sym p) can.are_read.type_read)

-- A bad id file is a cause among those of what was loaded.
pub ids_cause : (status : Status) (line : Recode) (loaded : Loaded) (bytes : List ℕ) → bytes ≡ loaded.id_bytes → RefusesIdFile status (λ ids. ReadsIds bytes ids) → RefusesInputs status line loaded
ids_cause OutOfMemory line loaded bytes e h = tt
ids_cause BadIds line loaded bytes e h = inl (λ ids r. h ids (subst (λ (m : List ℕ). ReadsIds m ids) (sym e) r))
ids_cause Done line loaded bytes e h = absurd h
ids_cause NoCommand line loaded bytes e h = absurd h
ids_cause BadExpression line loaded bytes e h = absurd h
ids_cause LoadFault line loaded bytes e h = absurd h
ids_cause SaveFault line loaded bytes e h = absurd h
ids_cause WriteFault line loaded bytes e h = absurd h
ids_cause BadType line loaded bytes e h = absurd h
ids_cause (Refused error) line loaded bytes e h = absurd h

pub allowed_cause : (status : Status) (line : Recode) (loaded : Loaded) → RefusesIdFile status (λ allowed. ReadsAllowed loaded.allow_bytes allowed) → RefusesInputs status line loaded
allowed_cause OutOfMemory line loaded h = tt
allowed_cause BadIds line loaded h = inr h
allowed_cause Done line loaded h = absurd h
allowed_cause NoCommand line loaded h = absurd h
allowed_cause BadExpression line loaded h = absurd h
allowed_cause LoadFault line loaded h = absurd h
allowed_cause SaveFault line loaded h = absurd h
allowed_cause WriteFault line loaded h = absurd h
allowed_cause BadType line loaded h = absurd h
allowed_cause (Refused error) line loaded h = absurd h

-- Where something can be read from a file, its only refusal is allocation failure.
pub ids_memory : {A : Type 0} (status : Status) (Reads : A → Type 0) → RefusesIdFile status Reads → (ids : A) → Reads ids → status ≡ OutOfMemory
ids_memory OutOfMemory Reads h ids r = refl
ids_memory BadIds Reads h ids r = absurd (h ids r)
ids_memory Done Reads h ids r = absurd h
ids_memory NoCommand Reads h ids r = absurd h
ids_memory BadExpression Reads h ids r = absurd h
ids_memory LoadFault Reads h ids r = absurd h
ids_memory SaveFault Reads h ids r = absurd h
ids_memory WriteFault Reads h ids r = absurd h
ids_memory BadType Reads h ids r = absurd h
ids_memory (Refused error) Reads h ids r = absurd h

-- Bytes are at most one list of allowed identifiers.
allowed_unique : (bytes : Option (List ℕ)) (a b : Option (List (List ℕ))) → ReadsAllowed bytes a → ReadsAllowed bytes b → a ≡ b
allowed_unique None None None r q = refl
allowed_unique None (Some a) b r q = absurd r
allowed_unique None None (Some b) r q = absurd q
allowed_unique (Some bytes) (Some a) (Some b) r q = ap (λ (l : List (List ℕ)). Some l) (lines_unique bytes b a q.lines r.lines)
allowed_unique (Some bytes) None b r q = absurd r
allowed_unique (Some bytes) (Some a) None r q = absurd q

blob_to_inputs : (line : Recode) (loaded : Loaded) (terms : Terms) → AreRead line loaded terms → (status : Status) → RefusesBlob status (asked_by line loaded terms) → RefusesInputs status line loaded
blob_to_inputs line loaded terms read OutOfMemory cause = tt
blob_to_inputs line loaded terms read (Refused r) cause = (terms, read, cause)
blob_to_inputs line loaded terms read Done cause = absurd cause
blob_to_inputs line loaded terms read NoCommand cause = absurd cause
blob_to_inputs line loaded terms read BadExpression cause = absurd cause
blob_to_inputs line loaded terms read LoadFault cause = absurd cause
blob_to_inputs line loaded terms read SaveFault cause = absurd cause
blob_to_inputs line loaded terms read WriteFault cause = absurd cause
blob_to_inputs line loaded terms read BadType cause = absurd cause
blob_to_inputs line loaded terms read BadIds cause = absurd cause

module _ (line : Recode) (loaded : Loaded) (dtype : Typ) (read_ids ids : List (List ℕ)) (context : Context) (session : SessionMeaning) (options : SerializeOptions) (result : Result Outputs Status)
    (type_read : IsRead (ShowsType loaded.type_bytes) (readers_of line.settings) dtype) (ids_read : ReadsIds loaded.id_bytes read_ids) (ids_are : ids ≡ read_ids)
    (context_read : (allowed : Option (List (List ℕ))) × ReadsAllowed loaded.allow_bytes allowed × (context ≡ context_of allowed)) (session_is : session ≡ session_of line.settings) (options_are : options ≡ padded_at line.settings.pad line.settings.deep) where
  terms : Terms
  terms = record { dtype = dtype; ids = read_ids; allowed = context_read.0 }

  read : AreRead line loaded terms
  unfolding terms
  read = record { type_read = type_read; ids_read = ids_read; allowed_read = context_read.1 }

  -- What was asked is what the inputs ask for.
  asked : request_for loaded.blob dtype line.len ids context session options ≡ asked_by line loaded terms
  unfolding terms
  asked = λ k. request_for loaded.blob dtype line.len (ids_are k) (context_read.2 k) (session_is k) (options_are k)

  -- What was recoded of the blob was recoded of what was loaded.
  pub inputs_made : IfOk result (AreMade (request_for loaded.blob dtype line.len ids context session options)) → IfOk result (λ outputs. AreOutputs line loaded outputs)
  inputs_made recoded =
      let here = subst (λ (r : Request). IfOk result (AreMade r)) asked recoded in
      IfOk-weaker result _ _ (λ outputs k. record { made = k.made; is_made = record { terms = terms; are_read = read; recoded = k.recoded; faithful = k.faithful }; holds = k.holds }) here

  -- A refused blob is a cause among those of what was loaded.
  pub inputs_refused : IfErr result (λ s. RefusesBlob s (request_for loaded.blob dtype line.len ids context session options)) → IfErr result (λ s. RefusesInputs s line loaded)
  inputs_refused refused =
      let here = subst (λ (r : Request). IfErr result (λ s. RefusesBlob s r)) asked refused in
      IfErr-weaker result _ _ (blob_to_inputs line loaded terms read) here

  -- What can be recoded on some terms can be recoded on those that were read.
  pub inputs_complete : (CanRecode (request_for loaded.blob dtype line.len ids context session options) → IfErr result (λ s. s ≡ OutOfMemory))
      → CanRecodeInputs line loaded → IfErr result (λ s. s ≡ OutOfMemory)
  unfolding terms
  inputs_complete complete can =
      let types : can.terms.dtype ≡ dtype = one_type_shown loaded.type_bytes can.terms.dtype dtype can.are_read.type_read.shows type_read.shows in
      let same_ids : can.terms.ids ≡ read_ids = lines_unique loaded.id_bytes read_ids can.terms.ids ids_read.lines can.are_read.ids_read.lines in
      let alloweds : can.terms.allowed ≡ context_read.0 = allowed_unique loaded.allow_bytes can.terms.allowed context_read.0 can.are_read.allowed_read context_read.1 in
      let same : asked_by line loaded can.terms ≡ asked_by line loaded terms = λ k. asked_by line loaded (record { dtype = types k; ids = same_ids k; allowed = alloweds k }) in
      complete (subst CanRecode (same ∙ sym asked) can.can_recode)

-- Where the refusal of a blob is allocation failure, so is the status.
pub memory_status : (error : WireError) (status : Status) → status ≡ blob_status error → error ≡ wire.OutOfMemory → status ≡ OutOfMemory
memory_status error status is memory = is ∙ ap blob_status memory
