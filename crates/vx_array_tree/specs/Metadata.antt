-- What an encoding keeps of a node beside its buffers and children, as a value.
use Rattle.vx_array_tree.specs.Encodings.Bools as Bools
use Rattle.vx_array_tree.specs.Encodings.Decimals as Decimals
use Rattle.vx_array_tree.specs.Encodings.VarBins as VarBins
use Rattle.vx_array_tree.specs.Encodings.Lists as Lists
use Rattle.vx_array_tree.specs.Encodings.ListViews as ListViews
use Rattle.vx_array_tree.specs.Encodings.Variants as Variants
use Rattle.vx_array_tree.specs.Encodings.Dicts as Dicts
use Rattle.vx_array_tree.specs.Encodings.Foreigns as Foreigns

-- Eight encodings keep nothing; each of the others has a value of its own, and so has a foreign node.
pub data Metadata : Type 0 where
  empty : Metadata
  bool : Bools.Metadata → Metadata
  decimal : Decimals.Metadata → Metadata
  varbin : VarBins.Metadata → Metadata
  list : Lists.Metadata → Metadata
  listview : ListViews.Metadata → Metadata
  variant : Variants.Metadata → Metadata
  dict : Dicts.Metadata → Metadata
  foreign : Foreigns.Metadata → Metadata
