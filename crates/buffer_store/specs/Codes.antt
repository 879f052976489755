-- Codes of the shelf and of all that is stored: each is a tuple of its parts.
use Rattle.std.specs.Prelude.{◌≡◌, ℕ, ◌==◌, if◌then◌else◌, Option, List, refl}
use Rattle.std.specs.Coded.{Coded, code_by, coded_list, coded_option, coded×, coded_ℕ}
use Rattle.std.specs.Ordering.{nat_cmp}
use Rattle.std.specs.FinMap.{code}
use Rattle.gl_numbers.specs.declared.buffer_words.BufferTarget.{BufferTarget}
use Rattle.gl_numbers.specs.declared.buffer_words.BufferTarget.TheVariants.{Array, ElementArray}
use Rattle.gl_numbers.specs.declared.buffer_words.Usage.{Usage}
use Rattle.gl_numbers.specs.declared.buffer_words.Usage.TheVariants.{StreamDraw, StaticDraw, DynamicDraw}
use Rattle.buffer_store.specs.StoredBuffer.{StoredBuffer}
use Rattle.buffer_store.specs.Stored.{Shelf, Stored}

-- a number for each target
abbrev number_of_target : BufferTarget → ℕ
number_of_target Array = 0
number_of_target ElementArray = 1

-- the target of a number
abbrev target_of_number : ℕ → BufferTarget
target_of_number n = if n == 0 then Array else ElementArray

-- a target's number gives it back
pub target_again : (t : BufferTarget) → target_of_number (number_of_target t) ≡ t
target_again Array = refl
target_again ElementArray = refl

-- a number for each usage
abbrev number_of_usage : Usage → ℕ
number_of_usage StreamDraw = 0
number_of_usage StaticDraw = 1
number_of_usage DynamicDraw = 2

-- the usage of a number
abbrev usage_of_number : ℕ → Usage
usage_of_number n = if n == 0 then StreamDraw else (if n == 1 then StaticDraw else DynamicDraw)

-- a usage's number gives it back
pub usage_again : (u : Usage) → usage_of_number (number_of_usage u) ≡ u
usage_again StreamDraw = refl
usage_again StaticDraw = refl
usage_again DynamicDraw = refl

-- the code of a target
abbrev pub target_code : Coded BufferTarget
target_code = code_by ℕ coded_ℕ number_of_target target_of_number target_again

-- the code of a usage
abbrev pub usage_code : Coded Usage
usage_code = code_by ℕ coded_ℕ number_of_usage usage_of_number usage_again

-- the code of a stored buffer
abbrev pub buffer_code : Coded StoredBuffer
buffer_code =
    code_by (Option BufferTarget × (ℕ × (Usage × List ℕ)))
    (coded× (coded_option target_code) (coded× coded_ℕ (coded× usage_code (coded_list coded_ℕ))))
    (λ b. (b.first_target, (b.size, (b.usage, b.bytes))))
    (λ p. record { first_target = p.0; size = p.1.0; usage = p.1.1.0; bytes = p.1.1.1 }) (λ _. refl)

-- the code of the shelf
abbrev pub shelf_code : Coded Shelf
shelf_code = code {R = nat_cmp} coded_ℕ buffer_code

-- the code of all that is stored
abbrev pub stored_code : Coded Stored
stored_code =
    code_by (Shelf × (Option ℕ × Option ℕ)) (coded× shelf_code (coded× (coded_option coded_ℕ) (coded_option coded_ℕ)))
    (λ s. (s.buffers, (s.bound.array, s.bound.element_array)))
    (λ p. record { buffers = p.0; bound = record { array = p.1.0; element_array = p.1.1 } }) (λ _. refl)
