mod RowSizes
