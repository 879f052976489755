-- How the raster state is told apart: it is a tuple of its parts.
use Rattle.std.specs.Prelude.{ℕ, ℤ, Bool, List, refl}
use Rattle.std.specs.Coded.{Coded, code_by, coded_bool, coded_list, coded×, coded_ℕ, coded_ℤ}
use Rattle.raster_state.specs.declared.words.StencilSide.{StencilSide}
use Rattle.raster_state.specs.declared.words.RasterWords.{RasterWords}

-- the stencil state of a side
abbrev pub side_code : Coded StencilSide
side_code =
    code_by ((ℕ × ℤ) × ((ℕ × ℕ) × List ℕ)) (coded× (coded× coded_ℕ coded_ℤ) (coded× (coded× coded_ℕ coded_ℕ) (coded_list coded_ℕ)))
    (λ s. ((s.func, s.reference), ((s.value_mask, s.write_mask), s.ops)))
    (λ p. record { func = p.0.0; reference = p.0.1; value_mask = p.1.0.0; write_mask = p.1.0.1; ops = p.1.1 }) (λ _. refl)

-- several words
abbrev numbers : Coded (List ℕ)
numbers = coded_list coded_ℕ

-- several flags
abbrev flags : Coded (List Bool)
flags = coded_list coded_bool

-- several numbers with a sign
abbrev signed : Coded (List ℤ)
signed = coded_list coded_ℤ

-- what is set about colours: the blend colour, equations and factors; the mask and the clear colour
abbrev colors : Coded ((List ℕ × (List ℕ × List ℕ)) × (List Bool × List ℕ))
colors = coded× (coded× numbers (coded× numbers numbers)) (coded× flags numbers)

-- what is set about depths and stencil values: comparison and mask of depths; front and back, and the stencil clear value
abbrev depth_stencil : Coded ((ℕ × Bool) × ((StencilSide × StencilSide) × ℤ))
depth_stencil = coded× (coded× coded_ℕ coded_bool) (coded× (coded× side_code side_code) coded_ℤ)

-- what is set about what is drawn at all, and where: capabilities; culled sides and winding; viewport and scissor box
abbrev view : Coded (List Bool × ((ℕ × ℕ) × (List ℤ × List ℤ)))
view = coded× flags (coded× (coded× coded_ℕ coded_ℕ) (coded× signed signed))

-- the words
abbrev pub words_code : Coded RasterWords
words_code =
    code_by
    (((List ℕ × (List ℕ × List ℕ)) × (List Bool × List ℕ))
    × (((ℕ × Bool) × ((StencilSide × StencilSide) × ℤ)) × (List Bool × ((ℕ × ℕ) × (List ℤ × List ℤ)))))
    (coded× colors (coded× depth_stencil view))
    (λ w. (
      ((w.blend_color, (w.blend_equation, w.blend_func)), (w.color_mask, w.clear_color)),
      (
        ((w.depth_func, w.depth_mask), ((w.front, w.back), w.clear_stencil)),
        (w.enabled, ((w.cull_side, w.winding), (w.viewport, w.scissor))),
      ),
    ))
    (λ p. record {
      enabled = p.1.1.0;
      blend_color = p.0.0.0;
      blend_equation = p.0.0.1.0;
      blend_func = p.0.0.1.1;
      color_mask = p.0.1.0;
      depth_func = p.1.0.0.0;
      depth_mask = p.1.0.0.1;
      front = p.1.0.1.0.0;
      back = p.1.0.1.0.1;
      cull_side = p.1.1.1.0.0;
      winding = p.1.1.1.0.1;
      viewport = p.1.1.1.1.0;
      scissor = p.1.1.1.1.1;
      clear_color = p.0.1.1;
      clear_stencil = p.1.0.1.1;
    }) (λ _. refl)
