-- Between which numbers the items of a job stand, and below which its unhandled ones.
use Rattle.std.specs.Prelude.{◌≡◌, ℕ, ◌+◌, ◌<◌, ◌≤◌, true, cond, nat_eq, List, Option, Some, length, is_none, slice_get, unwrap_or}
use Rattle.delf_model.specs.State.{Logged, job_of}
use Rattle.job_table.specs.declared.spans.Span.{Span}

-- the span of a job without items
abbrev pub no_span : Span
no_span = record { first = 0; end = 0; left = 0 }

-- the span with this number, which is past all others
abbrev pub grown_span : ℕ → Span → Span
grown_span n span = record { first = cond (nat_eq span.end 0) n span.first; end = n + 1; left = n + 1 }

-- the number of an item stands in the span of its job
pub record InSpan (span : Span) (i : ℕ) (logged : Logged) : Type 0 where
  pub first : span.first ≤ i
  pub end : i < span.end
  pub left : is_none logged.handled ≡ true → i < span.left

-- the items of the job have numbers in the span
abbrev pub Spans : List Logged → ℕ → Span → Type 0
Spans list job span = (i : ℕ) (logged : Logged) → slice_get list i ≡ Some logged → job_of logged.item ≡ job → InSpan span i logged

-- a span of numbers of a list
pub record Within (list : List Logged) (span : Span) : Type 0 where
  pub first : span.first ≤ length list
  pub end : span.end ≤ length list
  pub left : span.left ≤ length list

-- each job has its span, and there is room for the spare
pub record SpansFit (list : List Logged) (span_at : ℕ → Option Span) (room spare : ℕ) : Type 0 where
  pub spans : (job : ℕ) → Spans list job (unwrap_or (span_at job) no_span)
  pub within : (job : ℕ) → Within list (unwrap_or (span_at job) no_span)
  pub spans_spare : spare ≤ room
