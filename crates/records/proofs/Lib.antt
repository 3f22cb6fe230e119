-- The laws of the packing, of each field and then of the record.
mod Sets
mod Orders
mod Right
