-- The encodings.
use Rattle.std.specs.Prelude.{List, [], ◌∷◌}

-- An encoding is a way to lay out an array's rows in buffers and in further arrays. Of a foreign node the way is
-- not known.
pub data Encoding : Type 0 where
  null : Encoding
  bool : Encoding
  primitive : Encoding
  decimal : Encoding
  varbin : Encoding
  varbinview : Encoding
  list : Encoding
  listview : Encoding
  fixed_size_list : Encoding
  map : Encoding
  struct : Encoding
  union : Encoding
  variant : Encoding
  ext : Encoding
  dict : Encoding
  foreign : Encoding

-- Each of those that are known, once.
abbrev pub all : List Encoding
all = null ∷ bool ∷ primitive ∷ decimal ∷ varbin ∷ varbinview ∷ list ∷ listview ∷ fixed_size_list ∷ map ∷ struct ∷ union ∷ variant ∷ ext ∷ dict ∷ []
