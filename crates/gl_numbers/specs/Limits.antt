-- This project's limits (the standards leave them to the implementation).
use Rattle.std.specs.Prelude.{ℕ}

-- the most bytes of a buffer: 64 MiB
abbrev pub buffer_bytes_max : ℕ
buffer_bytes_max = 67108864

-- the most handles that a page is given, over all kinds of object
abbrev pub handles_max : ℕ
handles_max = 1048576

-- how many vertex attributes there are (MAX_VERTEX_ATTRIBS, OpenGL ES 2.0 section 2.7)
abbrev pub vertex_attribs_max : ℕ
vertex_attribs_max = 16

-- the longest side of a texture, a cube map and a renderbuffer, in pixels (OpenGL ES 2.0 section 6.2, as the limits that follow)
abbrev pub image_side_max : ℕ
image_side_max = 2048

-- how many vectors of uniforms a vertex shader may have
abbrev pub vertex_uniform_vectors_max : ℕ
vertex_uniform_vectors_max = 256

-- how many vectors of uniforms a fragment shader may have
abbrev pub fragment_uniform_vectors_max : ℕ
fragment_uniform_vectors_max = 224

-- how many vectors of varyings a program may have
abbrev pub varying_vectors_max : ℕ
varying_vectors_max = 16

-- how many texture units a fragment shader may sample
abbrev pub texture_units_max : ℕ
texture_units_max = 16

-- how many texture units a vertex shader may sample
abbrev pub vertex_texture_units_max : ℕ
vertex_texture_units_max = 4

-- how many texture units there are
abbrev pub combined_texture_units_max : ℕ
combined_texture_units_max = 20
