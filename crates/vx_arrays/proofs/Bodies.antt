-- What nodes of each encoding hold, as it is compared and with other buffers.
pub mod Nulls
pub mod Bools
pub mod Primitives
pub mod Decimals
pub mod VarBins
pub mod VarBinViews
pub mod ListViews
pub mod Foreigns
