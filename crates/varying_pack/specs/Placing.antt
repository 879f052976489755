-- The placing of varyings and uniforms into rows of four cells (GLSL ES 1.00.17 appendix A section 7). Rows and columns are
-- counted from 0.
use Rattle.std.specs.Prelude.{ℕ, ◌+◌, ◌-◌, ◌*◌, ◌==◌, nat_lt, nat_le, max, Bool, not, ◌&&◌, ◌||◌, if◌then◌else◌, List, [], ◌∷◌, map, Option, Some, None, is_some}
use Rattle.std.specs.List.{list_any, list_all, find, enumerate_from}
use Rattle.std.specs.Option.{option_map, option_and_then, option_or}
use Rattle.varying_pack.specs.declared.items.PackItem.{PackItem}
use Rattle.varying_pack.specs.Below.{each_below, least_below, greatest_below, count_below}

-- the columns that an item of a class takes: four of mat4, mat2 and vec4, three of mat3 and vec3, two of vec2, and one of
-- scalars and samplers
abbrev pub columns_of : ℕ → ℕ
columns_of class = if nat_le class 3 then 4 else (if nat_le class 5 then 3 else (if class == 6 then 2 else 1))

-- the rows of one element of a class: four of mat4, two of mat2, three of mat3, and one of the others
abbrev pub rows_of : ℕ → ℕ
rows_of class = if class == 1 then 4 else (if class == 2 then 2 else (if class == 4 then 3 else 1))

-- the rows of an item, by the size of its array
abbrev pub item_rows : PackItem → ℕ
item_rows item = rows_of item.class * item.size

-- an item with its place in the list
abbrev pub Listed : Type 0
Listed = ℕ × PackItem

-- whether an item is placed before another: by class, then the larger size first, then as listed
abbrev pub is_before : Listed → Listed → Bool
is_before a b =
    nat_lt a.1.class b.1.class
    || (a.1.class == b.1.class && (nat_lt b.1.size a.1.size || (a.1.size == b.1.size && nat_lt a.0 b.0)))

-- an item put before the first that is not placed before it
abbrev pub put_in_order : Listed → List Listed → List Listed
put_in_order a [] = a ∷ []
put_in_order a (b ∷ bs) = if is_before b a then b ∷ put_in_order a bs else a ∷ b ∷ bs

-- the items in the order in which they are placed
abbrev pub in_order : List Listed → List Listed
in_order [] = []
in_order (a ∷ rest) = put_in_order a (in_order rest)

-- the cells that an item took: its place in the list, its first row and column, and its rows and columns
pub record Block : Type 0 where
  pub item : ℕ
  pub row : ℕ
  pub column : ℕ
  pub rows : ℕ
  pub columns : ℕ

-- whether a number is one of n from a first on
abbrev pub is_among : ℕ → ℕ → ℕ → Bool
is_among first n k = nat_le first k && nat_lt k (first + n)

-- whether a cell is one of those that an item took
abbrev pub has_cell : ℕ → ℕ → Block → Bool
has_cell row column b = is_among b.row b.rows row && is_among b.column b.columns column

-- whether a cell is free
abbrev pub is_free : List Block → ℕ → ℕ → Bool
is_free blocks row column = not (list_any (has_cell row column) blocks)

-- whether a row is free in w columns from one on
abbrev pub is_row_free : List Block → ℕ → ℕ → ℕ → Bool
is_row_free blocks column w row = each_below w (λ k. is_free blocks row (column + k))

-- whether n rows from one on are free in these columns
abbrev pub is_run : List Block → ℕ → ℕ → ℕ → ℕ → Bool
is_run blocks column w n row = each_below n (λ k. is_row_free blocks column w (row + k))

-- the first row of the lowest run of n free rows, and of the highest
abbrev pub lowest : ℕ → List Block → ℕ → ℕ → ℕ → Option ℕ
lowest rows blocks column w n = least_below (rows + 1 - n) (is_run blocks column w n)

abbrev pub highest : ℕ → List Block → ℕ → ℕ → ℕ → Option ℕ
highest rows blocks column w n = greatest_below (rows + 1 - n) (is_run blocks column w n)

-- how many rows are used: all up to the last of a block
abbrev pub rows_used : List Block → ℕ
rows_used [] = 0
rows_used (b ∷ blocks) = max (b.row + b.rows) (rows_used blocks)

-- where an item of three or four columns goes: to the next rows after those used
abbrev pub after_used : ℕ → List Block → ℕ → Option (ℕ × ℕ)
after_used rows blocks n = if nat_le (rows_used blocks + n) rows then Some (rows_used blocks, 0) else None

-- where an item of two columns goes: to the lowest run in the first two, or else to the highest in the last two
abbrev pub in_pair : ℕ → List Block → ℕ → Option (ℕ × ℕ)
in_pair rows blocks n =
    option_or (option_map (λ row. (row, 0)) (lowest rows blocks 0 2 n)) (option_map (λ row. (row, 2)) (highest rows blocks 2 2 n))

-- whether a column has a run of n free rows
abbrev pub has_run : ℕ → List Block → ℕ → ℕ → Bool
has_run rows blocks n column = is_some (lowest rows blocks column 1 n)

-- how many rows of a column are free
abbrev pub free_rows : ℕ → List Block → ℕ → ℕ
free_rows rows blocks column = count_below rows (λ row. is_free blocks row column)

-- whether a column has a run of n free rows, and none of those that have one has fewer free rows
abbrev pub is_fullest : ℕ → List Block → ℕ → ℕ → Bool
is_fullest rows blocks n column =
    has_run rows blocks n column
    && list_all (λ other. not (has_run rows blocks n other) || nat_le (free_rows rows blocks column) (free_rows rows blocks other))
    (0 ∷ 1 ∷ 2 ∷ 3 ∷ [])

-- where an item of one column goes: to the lowest run of the leftmost of these columns
abbrev pub in_column : ℕ → List Block → ℕ → Option (ℕ × ℕ)
in_column rows blocks n =
    option_and_then (λ column. option_map (λ row. (row, column)) (lowest rows blocks column 1 n))
    (find (is_fullest rows blocks n) (0 ∷ 1 ∷ 2 ∷ 3 ∷ []))

-- where an item goes, beside the blocks that are there
unfoldable pub place_of : ℕ → List Block → PackItem → Option (ℕ × ℕ)
place_of rows blocks item =
    if nat_le item.class 5 then after_used rows blocks (item_rows item)
    else (if item.class == 6 then in_pair rows blocks (item_rows item) else in_column rows blocks (item_rows item))

-- the cells that an item takes at a place
abbrev pub block_at : Listed → ℕ × ℕ → Block
block_at a place =
    record { item = a.0; row = place.0; column = place.1; rows = item_rows a.1; columns = columns_of a.1.class }

-- the blocks of items that are placed in turn, beside those that are there; none where an item has no place
abbrev pub blocks_of : ℕ → List Block → List Listed → Option (List Block)
blocks_of rows blocks [] = Some blocks
blocks_of rows blocks (a ∷ rest) =
    option_and_then (λ place. blocks_of rows (block_at a place ∷ blocks) rest) (place_of rows blocks a.1)

-- the first row and column of an item
abbrev pub place_in : List Block → ℕ → ℕ × ℕ
place_in [] item = (0, 0)
place_in (b ∷ blocks) item = if b.item == item then (b.row, b.column) else place_in blocks item

-- the row and the column of each item of a list; none where an item has no place
unfoldable pub placing : ℕ → List PackItem → Option (List (ℕ × ℕ))
placing rows items =
    option_map (λ blocks. map (λ a. place_in blocks a.0) (enumerate_from 0 items))
    (blocks_of rows [] (in_order (enumerate_from 0 items)))
