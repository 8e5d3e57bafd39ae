-- The encodings, each in a file of its own that says all of it: what a node holds beside its children, its
-- identifier, its metadata, its buffers, the places of its children, which of them are control children, what its
-- buffers and its content are to be, and its rows. Foreign nodes have a file beside them.
pub mod Nulls
pub mod Bools
pub mod Primitives
pub mod Decimals
pub mod VarBins
pub mod VarBinViews
pub mod Lists
pub mod ListViews
pub mod FixedSizeLists
pub mod Maps
pub mod Structs
pub mod Unions
pub mod Variants
pub mod Exts
pub mod Dicts
pub mod Foreigns
