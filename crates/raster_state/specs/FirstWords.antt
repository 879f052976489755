-- The raster state at the start (WebGL 1.0 section 5.14.3; OpenGL ES 2.0 section 6.2).
use Rattle.std.specs.Prelude.{pos, true, false, [], ◌∷◌}
use Rattle.gl_numbers.specs.RasterWords.{always, counter_clockwise, func_add, keep, less, one, side_word, zero}
use Rattle.gl_numbers.specs.declared.raster_words.Side.TheVariants.{Back}
use Rattle.raster_state.specs.declared.words.StencilSide.{StencilSide}
use Rattle.raster_state.specs.declared.words.RasterWords.{RasterWords}

-- the stencil state of a side: ALWAYS with reference 0, all bits of both masks, and KEEP for each operation (OpenGL ES 2.0
-- section 4.1.4)
abbrev pub first_side : StencilSide
first_side = record {
  func = always;
  reference = pos 0;
  value_mask = 4294967295;
  write_mask = 4294967295;
  ops = keep ∷ keep ∷ keep ∷ [];
}

-- DITHER alone is enabled; FUNC_ADD with ONE and ZERO; all is written; LESS; BACK is culled and CCW is the front; viewport and
-- scissor box are the drawing buffer's 300 by 150 pixels (WebGL 1.0 section 2.2); and all else is 0
abbrev pub first_words : RasterWords
first_words = record {
  enabled = false ∷ false ∷ false ∷ true ∷ false ∷ false ∷ false ∷ false ∷ false ∷ [];
  blend_color = 0 ∷ 0 ∷ 0 ∷ 0 ∷ [];
  blend_equation = func_add ∷ func_add ∷ [];
  blend_func = one ∷ zero ∷ one ∷ zero ∷ [];
  color_mask = true ∷ true ∷ true ∷ true ∷ [];
  depth_func = less;
  depth_mask = true;
  front = first_side;
  back = first_side;
  cull_side = side_word Back;
  winding = counter_clockwise;
  viewport = pos 0 ∷ pos 0 ∷ pos 300 ∷ pos 150 ∷ [];
  scissor = pos 0 ∷ pos 0 ∷ pos 300 ∷ pos 150 ∷ [];
  clear_color = 0 ∷ 0 ∷ 0 ∷ 0 ∷ [];
  clear_stencil = pos 0;
}
