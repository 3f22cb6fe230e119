-- The fields of the written-out pattern, by the text's brackets.
pub mod Written
-- The laws of the cut, of what is prepared and of the reply.
mod Cutting
mod Preparing
mod Replying
-- For the layers above, and the theorems of the request.
pub mod Laws
