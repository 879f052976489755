-- The scanner's comments and pieces as those of the definitions.
use Rattle.std.specs.Prelude.{ℕ, ◌<◌, ◌≤◌, List, length}
use Rattle.glsl_tree.specs.Comments.{Comment, NoComment, LineComment, BlockComment, OpenComment}
use Rattle.glsl_tree.specs.SourceTokens.{Piece, Gap, Spelled, Foreign}
use Rattle.glsl_lex.specs.declared.comments.Comment.{Comment as Found}
use Rattle.glsl_lex.specs.declared.comments.Comment.TheVariants as found
use Rattle.glsl_lex.specs.declared.pieces.Piece.{Piece as Part}
use Rattle.glsl_lex.specs.declared.pieces.Piece.TheVariants as part

abbrev pub comment_of : Found → Comment
comment_of found.None = NoComment
comment_of (found.Line n) = LineComment n
comment_of (found.Block n) = BlockComment n
comment_of found.Open = OpenComment

-- a comment is a front of the text, and not empty
abbrev pub IsCommentFront : List ℕ → Found → Type 0
IsCommentFront text (found.Line n) = (0 < n) × (n ≤ length text)
IsCommentFront text (found.Block n) = (0 < n) × (n ≤ length text)
IsCommentFront text found.None = Unit {0}
IsCommentFront text found.Open = Unit {0}

abbrev pub piece_of : Part → Piece
piece_of (part.Gap n lines) = Gap n lines
piece_of (part.Token class n) = Spelled class n
piece_of part.Foreign = Foreign

-- the piece is a front of the text, and not empty; each line that ends in a gap has a byte
abbrev pub IsFront : List ℕ → Part → Type 0
IsFront text (part.Gap n lines) = (0 < n) × (n ≤ length text) × (lines ≤ n)
IsFront text (part.Token class n) = (0 < n) × (n ≤ length text)
IsFront text part.Foreign = Unit {0}
