-- How what is stored is told apart: each record is a tuple of its parts.
use Rattle.std.specs.Prelude.{ℕ, Option, refl}
use Rattle.std.specs.Coded.{Coded, code_by, coded_option, coded×, coded_ℕ}
use Rattle.std.specs.Ordering.{nat_cmp}
use Rattle.std.specs.FinMap.{FinMap, code}
use Rattle.framebuffer_rules.specs.declared.images.Image.{Image}
use Rattle.framebuffer_rules.specs.declared.targets.Storage.{Storage}
use Rattle.framebuffer_rules.specs.declared.targets.Attachments.{Attachments}
use Rattle.framebuffer_rules.specs.Targets.{Stored}

-- the storage of a renderbuffer
abbrev pub storage_code : Coded Storage
storage_code =
    code_by (ℕ × (ℕ × ℕ)) (coded× coded_ℕ (coded× coded_ℕ coded_ℕ)) (λ s. (s.format, (s.width, s.height)))
    (λ p. record { format = p.0; width = p.1.0; height = p.1.1 }) (λ _. refl)

-- an image that is attached
abbrev pub image_code : Coded Image
image_code = code_by (ℕ × ℕ) (coded× coded_ℕ coded_ℕ) (λ i. (i.h, i.face)) (λ p. record { h = p.0; face = p.1 }) (λ _. refl)

-- what is attached to a framebuffer
abbrev pub attachments_code : Coded Attachments
attachments_code =
    code_by ((Option Image × Option Image) × (Option Image × Option Image))
    (coded× (coded× (coded_option image_code) (coded_option image_code)) (coded× (coded_option image_code) (coded_option image_code)))
    (λ a. ((a.color, a.depth), (a.stencil, a.depth_stencil)))
    (λ p. record { color = p.0.0; depth = p.0.1; stencil = p.1.0; depth_stencil = p.1.1 }) (λ _. refl)

-- all renderbuffers and framebuffers
abbrev pub stored_code : Coded Stored
stored_code =
    code_by (FinMap nat_cmp Storage × FinMap nat_cmp Attachments)
    (coded× (code {R = nat_cmp} coded_ℕ storage_code) (code {R = nat_cmp} coded_ℕ attachments_code))
    (λ s. (s.renderbuffers, s.framebuffers)) (λ p. record { renderbuffers = p.0; framebuffers = p.1 }) (λ _. refl)
