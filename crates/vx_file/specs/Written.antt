-- The column file that is written for a table.
use Rattle.std.specs.Prelude.{ℕ, ◌+◌, true, false, List, [], ◌∷◌, None, length}
use Rattle.vx_forms.specs.Frame.{framed_bytes}
use Rattle.vx_flat.specs.Layout.{written_layout}
use Rattle.vx_trees.specs.Rose.{label}
use Rattle.vx_type_wire.specs.Schema.{type_schema}
use Rattle.vx_type_wire.specs.TypeTable.{type_table}
use Rattle.vx_array_tree.specs.Tree.{Tree}
use Rattle.vx_wire_tree.specs.Context.{Context}
use Rattle.vx_wire_tree.specs.Session.{SessionMeaning}
use Rattle.vx_serde.specs.declared.options.SerializeOptions.{SerializeOptions}
use Rattle.vx_serde.specs.Spells.{blob_of, ids_after}
use Rattle.vx_serde.specs.Taking.{as_written}
use Rattle.vx_file.specs.Blobs.{ranges_from, all_blobs}
use Rattle.vx_file.specs.Footer.{Footer, footer_form, file_word}
use Rattle.vx_file.specs.Tables.{columns_of}

-- A column is written with padding, as at its offset in the file.
abbrev pub options_at : ℕ → SerializeOptions
options_at offset = record { offset = offset; include_padding = true; deep = false }

-- The blob of a column at an offset, under a context.
abbrev pub column_blob : SessionMeaning → Tree → ℕ → Context → List ℕ
column_blob s t offset ctx = blob_of s (as_written s (options_at offset) t) ctx (options_at offset)

-- The context after a column: with the identifiers of its nodes.
abbrev pub context_after : SessionMeaning → Tree → ℕ → Context → Context
context_after s t offset ctx = record { ids = ids_after s (as_written s (options_at offset) t) ctx; allowed = ctx.allowed }

-- The context with which a file's first column is written: no identifier has come, and all may.
abbrev pub first_context : Context
first_context = record { ids = []; allowed = None }

-- The context after all columns, one after the other.
abbrev pub context_after_all : SessionMeaning → List Tree → ℕ → Context → Context
context_after_all s [] offset ctx = ctx
context_after_all s (t ∷ ts) offset ctx =
    context_after_all s ts (offset + length (column_blob s t offset ctx)) (context_after s t offset ctx)

-- The blobs of columns: the first stands at an offset, each other one after the one before it, and each is written under the
-- context that those before it have grown.
abbrev pub column_blobs : SessionMeaning → List Tree → ℕ → Context → List (List ℕ)
column_blobs s [] offset ctx = []
column_blobs s (t ∷ ts) offset ctx =
    column_blob s t offset ctx ∷ column_blobs s ts (offset + length (column_blob s t offset ctx)) (context_after s t offset ctx)

-- The blobs of a table's columns, the first after the file's first word.
abbrev pub blobs_of : SessionMeaning → Tree → List (List ℕ)
blobs_of s t = column_blobs s (columns_of t) 4 first_context

-- The footer that is written for a table.
abbrev pub written_footer : SessionMeaning → Tree → Footer
written_footer s t = record {
  rows = (label t).len;
  ranges = ranges_from 4 (blobs_of s t);
  ids = (context_after_all s (columns_of t) 4 first_context).ids;
  type_message = written_layout type_schema (type_table (label t).dtype);
}

-- The bytes that are written for a table.
abbrev pub file_bytes : SessionMeaning → Tree → List ℕ
file_bytes s t = framed_bytes file_word footer_form (all_blobs (blobs_of s t)) (written_footer s t)
