-- How `pack` keeps the cells that are free: as one run of rows in each of four columns.
use Rattle.std.specs.Prelude.{ℕ, ◌+◌, ◌-◌, ◌==◌, nat_le, Bool, not, ◌&&◌, ◌||◌, if◌then◌else◌, [], ◌∷◌, Option, Some, None}
use Rattle.std.specs.List.{list_all, find}
use Rattle.std.specs.Option.{option_map}
use Rattle.varying_pack.specs.declared.items.PackItem.{PackItem}
use Rattle.varying_pack.specs.declared.order.Turn.{Turn}
use Rattle.varying_pack.specs.declared.sheet.Sheet.{Sheet}
use Rattle.varying_pack.specs.declared.sheet.Span.{Span}
use Rattle.varying_pack.specs.Placing.{Listed, columns_of, item_rows}

-- a turn as an item with its place in the list
abbrev pub listed : Turn → Listed
listed turn = (turn.item, record { class = turn.class; size = turn.size.0 })

-- all rows of each column are free
abbrev pub new_sheet : ℕ → Sheet
new_sheet rows =
    let all : Span = record { start = 0; end = rows } in record { first = all; second = all; third = all; fourth = all }

-- the free rows of a column
abbrev pub span_at : Sheet → ℕ → Span
span_at s column = if column == 0 then s.first else (if column == 1 then s.second else (if column == 2 then s.third else s.fourth))

-- whether n rows are free
abbrev pub has_room : Span → ℕ → Bool
has_room s n = nat_le (s.start + n) s.end

-- the first of n rows
abbrev pub lowest_in : Span → ℕ → ℕ
lowest_in s n = if n == 0 then 0 else s.start

-- rows from a number on, and rows below one
abbrev pub from_row : ℕ → Span → Span
from_row row s = record s { start = row }

abbrev pub up_to_row : ℕ → Span → Span
up_to_row row s = record s { end = row }

-- whether another column has no room for n rows, or no fewer free rows than a column
abbrev pub is_as_full : Sheet → ℕ → ℕ → ℕ → Bool
is_as_full s n column other =
    not (has_room (span_at s other) n)
    || nat_le ((span_at s column).end - (span_at s column).start) ((span_at s other).end - (span_at s other).start)

-- the fullest of the columns that have room
abbrev pub is_fullest_in : Sheet → ℕ → ℕ → Bool
is_fullest_in s n column = has_room (span_at s column) n && list_all (is_as_full s n column) (0 ∷ 1 ∷ 2 ∷ 3 ∷ [])

abbrev pub fullest_in : Sheet → ℕ → Option ℕ
fullest_in s n = find (is_fullest_in s n) (0 ∷ 1 ∷ 2 ∷ 3 ∷ [])

-- where n rows of three or four columns go, of two, and of one
abbrev pub wide_spot : Sheet → ℕ → Option (ℕ × ℕ)
wide_spot s n = if has_room s.first n then Some (s.first.start, 0) else None

abbrev pub pair_spot : Sheet → ℕ → Option (ℕ × ℕ)
pair_spot s n =
    if has_room s.first n then Some (lowest_in s.first n, 0)
    else (if has_room s.third n then Some (s.third.end - n, 2) else None)

abbrev pub single_spot : Sheet → ℕ → Option (ℕ × ℕ)
single_spot s n = option_map (λ column. (lowest_in (span_at s column) n, column)) (fullest_in s n)

-- the free rows afterwards
abbrev pub after_wide : Sheet → ℕ → ℕ → Sheet
after_wide s columns n =
    let next = s.first.start + n in
    record {
      first = from_row next s.first;
      second = from_row next s.second;
      third = from_row next s.third;
      fourth = if columns == 4 then from_row next s.fourth else s.fourth;
    }

abbrev pub after_pair : Sheet → ℕ → Sheet
after_pair s n =
    if has_room s.first n then record s { first = from_row (s.first.start + n) s.first; second = from_row (s.first.start + n) s.second }
    else record s { third = up_to_row (s.third.end - n) s.third; fourth = up_to_row (s.third.end - n) s.fourth }

abbrev pub after_single : Sheet → ℕ → ℕ → Sheet
after_single s column n =
    let taken = from_row ((span_at s column).start + n) (span_at s column) in
    if column == 0 then record s { first = taken }
    else (if column == 1 then record s { second = taken }
    else (if column == 2 then record s { third = taken } else record s { fourth = taken }))

-- where an item goes
abbrev pub spot : Sheet → PackItem → Option (ℕ × ℕ)
spot s item =
    if nat_le item.class 5 then wide_spot s (item_rows item)
    else (if item.class == 6 then pair_spot s (item_rows item) else single_spot s (item_rows item))

-- the free rows once it is there
abbrev pub after : Sheet → PackItem → ℕ × ℕ → Sheet
after s item place =
    if nat_le item.class 5 then after_wide s (columns_of item.class) (item_rows item)
    else (if item.class == 6 then after_pair s (item_rows item) else after_single s place.1 (item_rows item))
