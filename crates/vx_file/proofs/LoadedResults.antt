-- What a call that parses the footer of a file answers, said of the file's bytes.
use Rattle.std.proofs.Common.{ℕ, ◌≡◌, ◌≤◌, ◌+◌, List, Some, Result, Ok, Err, IfOk, IfErr, MatchResult, length, ap, subst}
use Rattle.std.specs.Prelude.{OnOk}
use Rattle.vx_forms.specs.Frame.{Framed, cut_frame, footer_len}
use Rattle.vx_types.specs.Known.{ExtMeaning, IsKnown}
use Rattle.vx_type_wire.specs.Shown.{ShowsType}
use Rattle.vx_file.specs.Causes.{HasBadType, HasNoForm, RefusesLoading, IsMemoryOrFault}
use Rattle.vx_file.specs.declared.error.FileError.{FileError}
use Rattle.vx_file.specs.declared.error.FileError.TheVariants.{OutOfMemory, StoreFault, NotAFile, BadType, NoColumn, BadColumn, NotAStruct, TooLong, Wire}
use Rattle.vx_file.specs.Footer.{Footer, file_word}
use Rattle.vx_file.specs.Loading.{IsFooterOf, RefusesFooter}
use Rattle.vx_file.specs.Ranges.{RangesState, HasTaken, Tells}
use Rattle.vx_file.specs.Selecting.{EndWithin}
use Rattle.vx_file.specs.Shows.{File, FileShows, IsTableType, footer_with}
use Rattle.vx_file.proofs.LoadedFiles.{parsed_shown, parsed_none, parsed_no_table}
use Rattle.vx_file.proofs.RangesWithin.{end_within}
use Rattle.vx_file.proofs.OneFile.{one_file, one_form}

pub result_shown : (r : Result File FileError) (bytes : List ℕ) (frame : Framed (List ℕ)) → cut_frame file_word bytes ≡ Some frame → IfOk r (IsFooterOf frame.value frame.offset) → IfOk r (λ f. FileShows bytes f)
result_shown (Ok f) bytes frame cut h = parsed_shown bytes frame f cut h
result_shown (Err e) bytes frame cut h = tt

pub result_within : (r : Result File FileError) (value : List ℕ) (offset len start size : ℕ) → offset ≤ len → start + len ≤ size → IfOk r (IsFooterOf value offset) → IfOk r (λ f. EndWithin size start f.ranges)
result_within (Ok f) value offset len start size fits room h = end_within offset len start size f.ranges fits room h.within
result_within (Err e) value offset len start size fits room h = tt

error_cause : (e : FileError) (x : ExtMeaning) (own : List ℕ → List ℕ) (before after : RangesState) (frame : Framed (List ℕ)) → ((bytes : List ℕ) → Tells before bytes → cut_frame file_word (own bytes) ≡ Some frame) → RefusesFooter x frame.value frame.offset e
    → RefusesLoading x own before after e
error_cause OutOfMemory x own before after frame cut h = tt
error_cause StoreFault x own before after frame cut h = absurd h
error_cause NotAFile x own before after frame cut h = λ bytes tells. parsed_none (own bytes) frame (cut bytes tells) h
error_cause BadType x own before after frame cut h = λ bytes tells. parsed_no_table (own bytes) x frame (cut bytes tells) h
error_cause (NoColumn i) x own before after frame cut h = absurd h
error_cause (BadColumn i e) x own before after frame cut h = absurd h
error_cause NotAStruct x own before after frame cut h = absurd h
error_cause TooLong x own before after frame cut h = absurd h
error_cause (Wire e) x own before after frame cut h = absurd h

pub result_cause : (r : Result File FileError) (x : ExtMeaning) (own : List ℕ → List ℕ) (before after : RangesState) (frame : Framed (List ℕ)) → ((bytes : List ℕ) → Tells before bytes → cut_frame file_word (own bytes) ≡ Some frame)
    → IfErr r (RefusesFooter x frame.value frame.offset) → IfErr r (RefusesLoading x own before after)
result_cause (Ok f) x own before after frame cut h = tt
result_cause (Err e) x own before after frame cut h = error_cause e x own before after frame cut h

-- A file of a type of tables that is known is not refused by its type.
not_bad : (x : ExtMeaning) (bytes : List ℕ) (file : File) → HasBadType x bytes → FileShows bytes file → IsKnown x file.dtype → IsTableType (length file.ranges) file.dtype → ⊥
not_bad x bytes file bad shows known table =
    let same : footer_with file shows.message ≡ bad.footer = (one_form bytes (footer_with file shows.message) bad.footer shows.offset bad.offset shows.form bad.form).0 in
    let P : List ℕ → Type 0 = λ m. ShowsType m file.dtype in
    let Q : ℕ → Type 0 = λ n. IsTableType n file.dtype in
    bad.none file.dtype (record { shows = subst P (ap (λ (z : Footer). z.type_message) same) shows.dtype; known = known }) (subst Q (ap (λ (z : Footer). length z.ranges) same) table)

error_never : (e : FileError) (x : ExtMeaning) (before after : RangesState) (bytes : List ℕ) (frame : Framed (List ℕ)) → cut_frame file_word bytes ≡ Some frame → RefusesFooter x frame.value frame.offset e
    → (file : File) → FileShows bytes file → IsKnown x file.dtype → IsTableType (length file.ranges) file.dtype → IsMemoryOrFault e before after
error_never OutOfMemory x before after bytes frame cut h file shows known table = tt
error_never StoreFault x before after bytes frame cut h file shows known table = absurd h
error_never NotAFile x before after bytes frame cut h file shows known table = absurd (parsed_none bytes frame cut h (footer_with file shows.message) shows.offset shows.form)
error_never BadType x before after bytes frame cut h file shows known table = absurd (not_bad x bytes file (parsed_no_table bytes x frame cut h) shows known table)
error_never (NoColumn i) x before after bytes frame cut h file shows known table = absurd h
error_never (BadColumn i e) x before after bytes frame cut h file shows known table = absurd h
error_never NotAStruct x before after bytes frame cut h file shows known table = absurd h
error_never TooLong x before after bytes frame cut h file shows known table = absurd h
error_never (Wire e) x before after bytes frame cut h file shows known table = absurd h

pub result_complete : (r : Result File FileError) (x : ExtMeaning) (before after : RangesState) (bytes : List ℕ) (frame : Framed (List ℕ)) → cut_frame file_word bytes ≡ Some frame
    → IfOk r (IsFooterOf frame.value frame.offset) → IfErr r (RefusesFooter x frame.value frame.offset)
    → (file : File) → FileShows bytes file → IsKnown x file.dtype → IsTableType (length file.ranges) file.dtype → MatchResult r (λ f. f ≡ file) (λ e. IsMemoryOrFault e before after)
result_complete (Ok f) x before after bytes frame cut ok err file shows known table = one_file bytes f file (parsed_shown bytes frame f cut ok) shows
result_complete (Err e) x before after bytes frame cut ok err file shows known table = error_never e x before after bytes frame cut err file shows known table

-- ---- all bytes of a file

-- A refusal has its cause whatever the file's own bytes are called.
cause_as : (e : FileError) (x : ExtMeaning) (own other : List ℕ → List ℕ) (before after : RangesState) → ((bytes : List ℕ) → Tells before bytes → own bytes ≡ other bytes) → RefusesLoading x own before after e
    → RefusesLoading x other before after e
cause_as OutOfMemory x own other before after same h = tt
cause_as StoreFault x own other before after same h = h
cause_as NotAFile x own other before after same h = λ bytes tells.
    let P : List ℕ → Type 0 = λ z. HasNoForm z in
    subst P (same bytes tells) (h bytes tells)
cause_as BadType x own other before after same h = λ bytes tells.
    let P : List ℕ → Type 0 = λ z. HasBadType x z in
    subst P (same bytes tells) (h bytes tells)
cause_as (NoColumn i) x own other before after same h = absurd h
cause_as (BadColumn i e) x own other before after same h = absurd h
cause_as NotAStruct x own other before after same h = absurd h
cause_as TooLong x own other before after same h = absurd h
cause_as (Wire e) x own other before after same h = absurd h

pub causes_as : (r : Result File FileError) (x : ExtMeaning) (own other : List ℕ → List ℕ) (before after : RangesState) → ((bytes : List ℕ) → Tells before bytes → own bytes ≡ other bytes) → IfErr r (RefusesLoading x own before after)
    → IfErr r (RefusesLoading x other before after)
causes_as (Ok f) x own other before after same h = tt
causes_as (Err e) x own other before after same h = cause_as e x own other before after same h

pub shown_as : (r : Result File FileError) (own other : List ℕ) → own ≡ other → IfOk r (λ f. FileShows own f) → IfOk r (λ f. FileShows other f)
shown_as r own other e h =
    let P : List ℕ → Type 0 = λ z. IfOk r (λ f. FileShows z f) in
    subst P e h

pub taken_of : (r : Result File FileError) (own other : List ℕ) (before after : RangesState) → own ≡ other → OnOk r (HasTaken (12 + footer_len own) before after) → OnOk r (HasTaken (12 + footer_len other) before after)
taken_of r own other before after e h =
    let P : List ℕ → Type 0 = λ z. OnOk r (HasTaken (12 + footer_len z) before after) in
    subst P e h
