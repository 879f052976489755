-- The Shot: all that one accepted draw, clear or mipmap build sees.

-- no command that is built makes one yet, so there is no case
pub data Shot : Type 0 where
