-- The command `recode`: its words, what it loads, asks, makes, saves and prints, and how it ends.
use Rattle.std.specs.Prelude.{◌≡◌, ◌≢◌, ◌⊎◌, ◌<◌, ◌^◌, ℕ, Bool, true, false, IsTrue, Option, None, Some, option_map, List, [], ◌∷◌, codes, decimal}
use Rattle.std.specs.Io.KnownBytes.{Keeps}
use Rattle.std.specs.List.{flat_map}
use Rattle.vx_types.specs.Typ.{Typ}
use Rattle.vx_types.specs.Known.{ExtMeaning}
use Rattle.vx_type_wire.specs.Known.{IsRead}
use Rattle.vx_type_wire.specs.Shown.{ShowsType}
use Rattle.vx_wire_tree.specs.Context.{Context, with_ids}
use Rattle.vx_wire_tree.specs.Session.{SessionMeaning}
use Rattle.vx_registry.specs.Session.{shipped_meaning, revised_meaning}
use Rattle.vx_serde.specs.declared.options.SerializeOptions.{SerializeOptions}
use Rattle.vx_serde.specs.Causes.{Refuses}
use Rattle.vx_serde.specs.Recoding.{IsFaithful, IsRecoded, Product}
use Rattle.vx_serde.specs.Request.{CanRecode, Request, request_for}
use Rattle.vx_buffer.specs.Joined.{joined}
use Rattle.vxcat_store.specs.declared.status.Status.{Status}
use Rattle.vxcat_store.specs.declared.status.Status.TheVariants.{Done, OutOfMemory, NoCommand, LoadFault, SaveFault, WriteFault, BadType, BadIds, BadExpression, Refused}
use Rattle.vxcat_store.specs.IdFile.{ReadsIds, id_text}
use Rattle.vxcat_store.specs.Listing.{listing}
use Rattle.vxcat_blobs.specs.Options.{AreOptions, Setting, Settings, setting_words, settings_of}
use Rattle.vxcat_store.specs.RunState.{IsUntouched, Prints, PrintsPrefix, Run}
use Rattle.vx_serialized.specs.Refusals.{wire_error}
use Rattle.vxcat_store.specs.StoreState.{AskedOnly, HasRisen, Stands, StoreState}

-- ---- the words

-- What the words of the command name: the files of the type, of the blob and of the identifiers, the array's length, the
-- files of the new blob and its identifiers, and what the options set.
pub record Recode : Type 0 where
  pub type_file : List ℕ
  pub blob_file : List ℕ
  pub len : ℕ
  pub id_file : List ℕ
  pub out : List ℕ
  pub out_ids : List ℕ
  pub settings : Settings

-- The words are `recode TYPE BLOB LEN IDS OUT OUTIDS` with options after them. A number is written in decimal digits
-- without leading zeros and lies below 2^64, and the names of the two outputs differ; an output may have the name of an
-- input.
pub record InvokesRecode (words : List (List ℕ)) (line : Recode) : Type 0 where
  pub given : List Setting
  pub words_are : words ≡ codes "recode" ∷ line.type_file ∷ line.blob_file ∷ decimal line.len ∷ line.id_file ∷ line.out ∷ line.out_ids ∷ flat_map setting_words given
  pub are_options : AreOptions given
  pub settings_are : line.settings ≡ settings_of given
  pub fits : line.len < 2 ^ 64
  pub outputs_differ : line.out ≢ line.out_ids

-- ---- the inputs

-- The name, where one is given, as a name to load.
abbrev pub if_named : Option (List ℕ) → List (List ℕ)
if_named None = []
if_named (Some name) = name ∷ []

-- The names that it loads.
abbrev pub inputs : Recode → List (List ℕ)
inputs line = line.type_file ∷ line.blob_file ∷ line.id_file ∷ if_named line.settings.allow

-- The contents of the files that it reads, the last where it is named.
pub record Loaded : Type 0 where
  pub type_bytes : List ℕ
  pub blob : List ℕ
  pub id_bytes : List ℕ
  pub allow_bytes : Option (List ℕ)

-- Bytes stand at a name, where one is given; where none is, there are none.
abbrev pub StandsIfNamed : StoreState → Option (List ℕ) → Option (List ℕ) → Type 0
StandsIfNamed store None None = Unit {0}
StandsIfNamed store (Some name) (Some bytes) = Stands store name bytes
StandsIfNamed store _ _ = ⊥

-- What was loaded stands at the names of the inputs.
pub record AreInputs (line : Recode) (store : StoreState) (loaded : Loaded) : Type 0 where
  pub type_stands : Stands store line.type_file loaded.type_bytes
  pub blob_stands : Stands store line.blob_file loaded.blob
  pub ids_stand : Stands store line.id_file loaded.id_bytes
  pub allow_stands : StandsIfNamed store line.settings.allow loaded.allow_bytes

-- ---- what is asked

-- The readers of extensions: there are none, and extensions are allowed without them where what is unknown is.
abbrev pub readers_by : Bool → ExtMeaning
readers_by unknown = record { reader = λ id. None; unknown = unknown }

-- What is unknown is allowed where `--unknown` is given; without it no extension stands in a type.
abbrev pub readers_of : Settings → ExtMeaning
readers_of settings = readers_by settings.unknown

-- What reads and writes arrays beside readers of extensions: the shipped encodings, where primitives have two
-- identifiers or one.
abbrev pub shipped_by : Bool → ExtMeaning → SessionMeaning
shipped_by false x = shipped_meaning x
shipped_by true x = revised_meaning x

-- The same beside these readers, whose flag says whether nodes that nothing reads are allowed, too.
abbrev pub session_by : Bool → Bool → SessionMeaning
session_by revised unknown = shipped_by revised (readers_by unknown)

-- Primitives have two identifiers where `--rev2` is given, and else one.
abbrev pub session_of : Settings → SessionMeaning
session_of settings = session_by settings.revised settings.unknown

-- The context under which the new blob is written: it has no identifiers, and allows those of the file that is named,
-- or all where none is.
abbrev pub context_of : Option (List (List ℕ)) → Context
context_of allowed = record { ids = []; allowed = option_map (λ ids. with_ids [] ids) allowed }

-- Without `--pad` no pads are written; with it they are, as at its position. With `--deep` deep trees are read and
-- written.
abbrev pub padded_at : Option ℕ → Bool → SerializeOptions
padded_at None deep = record { offset = 0; include_padding = false; deep = deep }
padded_at (Some offset) deep = record { offset = offset; include_padding = true; deep = deep }

-- What the files say beside the blob: the type, the identifiers to read with, and those that are allowed, if a file
-- says so.
pub record Terms : Type 0 where
  pub dtype : Typ
  pub ids : List (List ℕ)
  pub allowed : Option (List (List ℕ))

-- The file of allowed identifiers has these, where one is named.
abbrev pub ReadsAllowed : Option (List ℕ) → Option (List (List ℕ)) → Type 0
ReadsAllowed None None = Unit {0}
ReadsAllowed (Some bytes) (Some ids) = ReadsIds bytes ids
ReadsAllowed _ _ = ⊥

-- The type file shows the type within the limits, and the id files have the identifiers.
pub record AreRead (line : Recode) (loaded : Loaded) (terms : Terms) : Type 0 where
  pub type_read : IsRead (ShowsType loaded.type_bytes) (readers_of line.settings) terms.dtype
  pub ids_read : ReadsIds loaded.id_bytes terms.ids
  pub allowed_read : ReadsAllowed loaded.allow_bytes terms.allowed

-- What is asked of the blob, on the terms that were read.
abbrev pub asked_by : Recode → Loaded → Terms → Request
asked_by line loaded terms =
    request_for loaded.blob terms.dtype line.len terms.ids (context_of terms.allowed) (session_of line.settings) (padded_at line.settings.pad line.settings.deep)

-- ---- what is made

-- The outputs are what `recode` makes of what is asked: its array is the one that the blob spells, and the new blob,
-- within the limits, spells it again.
pub record IsMade (line : Recode) (loaded : Loaded) (made : Product) : Type 0 where
  pub terms : Terms
  pub are_read : AreRead line loaded terms
  pub recoded : IsRecoded (asked_by line loaded terms) made
  pub faithful : IsFaithful (asked_by line loaded terms) made

-- What was loaded can be recoded: the type file shows a type, the id files have identifiers, and what is asked with these
-- can be done.
pub record CanRecodeInputs (line : Recode) (loaded : Loaded) : Type 0 where
  pub terms : Terms
  pub are_read : AreRead line loaded terms
  pub can_recode : CanRecode (asked_by line loaded terms)

-- Why what was loaded is not recoded: the type file shows no type within the limits, or one with an extension that is
-- not allowed; an id file, or the file of those that are allowed, is no text of at most 65,536 lines; or the blob is
-- refused at the type and with the identifiers that were read. Allocation failure needs no cause.
abbrev pub RefusesInputs : Status → Recode → Loaded → Type 0
RefusesInputs OutOfMemory line loaded = Unit {0}
RefusesInputs BadType line loaded = (dtype : Typ) → ¬ (IsRead (ShowsType loaded.type_bytes) (readers_of line.settings) dtype)
RefusesInputs BadIds line loaded =
    ((ids : List (List ℕ)) → ¬ (ReadsIds loaded.id_bytes ids)) ⊎ ((allowed : Option (List (List ℕ))) → ¬ (ReadsAllowed loaded.allow_bytes allowed))
RefusesInputs (Refused refusal) line loaded = (terms : Terms) × AreRead line loaded terms × Refuses (asked_by line loaded terms) (wire_error refusal)
RefusesInputs status line loaded = ⊥

-- ---- what is saved

-- Names that are no outputs of the command hold what they held before.
pub record KeepsOthers (line : Recode) (before after : StoreState) : Type 0 where
  pub told : after.tells ≡ before.tells
  pub files : IsTrue before.tells → (name : List ℕ) → name ≢ line.out → name ≢ line.out_ids → after.file name ≡ before.file name

-- The blob is saved before its identifiers: the name of the second output still holds what it held, or the new blob
-- stands at the name of the first.
abbrev pub SavesInOrder : Recode → StoreState → StoreState → List ℕ → Type 0
SavesInOrder line before after blob =
    (IsTrue before.tells → after.file line.out_ids ≡ before.file line.out_ids) ⊎ Stands after line.out blob

-- The outputs stand at their names: the new blob, and the text of its identifiers.
pub record AreSaved (line : Recode) (after : StoreState) (blob : List ℕ) (ids : List (List ℕ)) : Type 0 where
  pub blob_saved : Stands after line.out blob
  pub ids_saved : Stands after line.out_ids (id_text ids)

-- ---- how it ends

-- The command's work: its inputs were loaded, and the outputs made from them.
pub record Work (line : Recode) (before : StoreState) : Type 0 where
  pub loaded : Loaded
  pub made : Product
  pub are_inputs : AreInputs line before loaded
  pub is_made : IsMade line loaded made

-- It came to its saves and no further: its outputs were made, and their names are the only ones that may have changed,
-- in the order in which they are saved. Nothing is printed.
pub record EndsSaving (line : Recode) (run : Run) : Type 0 where
  pub work : Work line run.before
  pub in_order : SavesInOrder line run.before run.after (joined work.made.buffers)
  pub others : KeepsOthers line run.before run.after
  pub unprinted : Keeps run.out_before.written run.out_after.written

-- It came to its listing: its outputs are saved, other names hold what they held, and of the listing there was printed
-- what the argument says.
pub record EndsPrinting (line : Recode) (run : Run) (IsPrinted : Run → List ℕ → Type 0) : Type 0 where
  pub work : Work line run.before
  pub saved : AreSaved line run.after (joined work.made.buffers) work.made.context.ids
  pub others : KeepsOthers line run.before run.after
  pub printed : IsPrinted run (listing work.made.array line.settings.rows)

-- It was refused by what it loaded, which cannot be recoded, before it saved or printed anything.
pub record EndsRefused (status : Status) (line : Recode) (run : Run) : Type 0 where
  pub loaded : Loaded
  pub are_inputs : AreInputs line run.before loaded
  pub cause : RefusesInputs status line loaded
  pub cannot : CanRecodeInputs line loaded → ⊥
  pub untouched : IsUntouched run

-- How it ends, by its status. 0: the outputs are saved and the listing printed. 1: nothing is saved or printed, or the
-- outputs were made and not all saved, or they are saved and a prefix of the listing is printed. 3: the count of load
-- faults rose, and only inputs were asked for. 4: the count of save faults rose, and the outputs were made. 5: the count
-- of the sink's faults rose, the outputs are saved, and a prefix of the listing is printed. At 3, 6, 7 and each refusal of
-- the blob nothing is saved or printed. So nothing is saved unless the outputs were made from the inputs, and names that
-- are no outputs hold what they held.
abbrev pub EndsRecode : Status → Recode → Run → Type 0
EndsRecode Done line run = EndsPrinting line run Prints
EndsRecode OutOfMemory line run = IsUntouched run ⊎ (EndsSaving line run ⊎ EndsPrinting line run PrintsPrefix)
EndsRecode NoCommand line run = ⊥
EndsRecode BadExpression line run = ⊥
EndsRecode LoadFault line run =
    HasRisen run.before.load_faults run.after.load_faults × AskedOnly (inputs line) run.before.asked run.after.asked × IsUntouched run
EndsRecode SaveFault line run = HasRisen run.before.save_faults run.after.save_faults × EndsSaving line run
EndsRecode WriteFault line run = HasRisen run.out_before.faults run.out_after.faults × EndsPrinting line run PrintsPrefix
EndsRecode status line run = EndsRefused status line run

-- It can end well: the store tells its files, and among them inputs that can be recoded.
pub record CanEndRecode (line : Recode) (before : StoreState) : Type 0 where
  pub tells : IsTrue before.tells
  pub loaded : Loaded
  pub are_inputs : AreInputs line before loaded
  pub can_recode : CanRecodeInputs line loaded
