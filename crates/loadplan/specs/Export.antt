-- What the exported functions answer, where a question of the crates below needs a class, an order or a number of its own.
-- entry_from size at t i k    entry i of a table, in the class and the order that k says; section_in .. of each kind
-- head_in, find_in           the hash table's header, and the lookup
-- WroteTold, WalkTold        what a walk leaves: nothing where class or order is none
-- planned_of a               a plan's answer as three numbers
-- PlanTold, CarryTold, LoadTold  what planning, carrying out and loading answer and leave
-- Assumes nothing.
use Rattle.std.specs.Prelude.{ℕ, ◌*◌, ◌≡◌, List, length, Option, Result, Ok, Err, ⊤}
use Rattle.endian.specs.Range.{answer, ◌>>=◌}
use Rattle.endian.specs.Place.{size_of, section_header, program_header, symbol, rel, rela, dynamic}
use Rattle.endian.specs.declared.fault.Fault.{Fault}
use Rattle.endian.specs.declared.Class.{Class}
use Rattle.endian.specs.declared.Order.{Order}
use Rattle.parse.specs.Entry.{entry_fault}
use Rattle.file.specs.declared.Ident.{Ident}
use Rattle.section.specs.Layout.{section_at}
use Rattle.section.specs.declared.SectionHeader.{SectionHeader}
use Rattle.segment.specs.Layout.{segment_at}
use Rattle.segment.specs.declared.ProgramHeader.{ProgramHeader}
use Rattle.symbol.specs.Layout.{symbol_at}
use Rattle.symbol.specs.declared.Symbol.{Symbol}
use Rattle.relocation.specs.Layout.{rel_at, rela_at}
use Rattle.relocation.specs.declared.Rel.{Rel}
use Rattle.relocation.specs.declared.Rela.{Rela}
use Rattle.dynamic.specs.Layout.{dyn_at}
use Rattle.dynamic.specs.declared.Dyn.{Dyn}
use Rattle.hash.specs.Table.{hash_fault, head_of}
use Rattle.hash.specs.Find.{find_of}
use Rattle.hash.specs.declared.Head.{Head}
use Rattle.load_rules.specs.declared.Window.{Window}
use Rattle.load_plan.specs.Plan.{Made}
use Rattle.load_plan.specs.Refusal.{number_of, reader_of}
use Rattle.load_plan.specs.declared.refusal.Refusal.{Refusal}
use Rattle.load_image.specs.Carry.{CarriedOut}
use Rattle.load_image.specs.Image.{Outcome}
use Rattle.walks.specs.Walk.{Kind, Walked}
use Rattle.loadplan.specs.declared.Planned.{Planned}

-- ---- entries

abbrev pub entry_from : {E : Type 0} → (Class → ℕ) → (Class → Order → List ℕ → ℕ → E) → List ℕ → ℕ → Result Ident Fault → Result E Fault
entry_from size at t i k = k >>= λ k. answer (entry_fault (size k.class) (length t) i) (at k.class k.order t (i * size k.class))

abbrev pub section_in : List ℕ → ℕ → Result Ident Fault → Result SectionHeader Fault
section_in t i k = entry_from (size_of section_header) section_at t i k

abbrev pub segment_in : List ℕ → ℕ → Result Ident Fault → Result ProgramHeader Fault
segment_in t i k = entry_from (size_of program_header) segment_at t i k

abbrev pub symbol_in : List ℕ → ℕ → Result Ident Fault → Result Symbol Fault
symbol_in t i k = entry_from (size_of symbol) symbol_at t i k

abbrev pub rel_in : List ℕ → ℕ → Result Ident Fault → Result Rel Fault
rel_in t i k = entry_from (size_of rel) rel_at t i k

abbrev pub rela_in : List ℕ → ℕ → Result Ident Fault → Result Rela Fault
rela_in t i k = entry_from (size_of rela) rela_at t i k

abbrev pub dyn_in : List ℕ → ℕ → Result Ident Fault → Result Dyn Fault
dyn_in t i k = entry_from (size_of dynamic) dyn_at t i k

-- ---- the hash table

abbrev pub head_in : List ℕ → Result Ident Fault → Result Head Fault
head_in t k = k >>= λ k. answer (hash_fault k.order t) (head_of k.order t)

abbrev pub find_in : List ℕ → List ℕ → List ℕ → List ℕ → Result Ident Fault → Result (Option ℕ) Fault
find_in t syms strs name k = k >>= λ k. find_of k.class k.order t syms strs name

-- ---- walks

abbrev pub WroteTold : (Class → Order → Type 0) → List ℕ → List ℕ → ℕ → Result Ident Fault → Type 0
WroteTold wrote old new r (Err f) = (r ≡ 0) × (new ≡ old)
WroteTold wrote old new r (Ok k) = wrote k.class k.order

abbrev pub WalkTold : Kind → List ℕ → ℕ → List ℕ → List ℕ → ℕ → Result Ident Fault → Type 0
WalkTold k t i old new r id = WroteTold (λ c e. Walked k c e t i old new r) old new r id

-- ---- the load plan

abbrev pub planned_of : Result ℕ Refusal → Planned
planned_of (Ok n) = record { refusal = 0; reader = 0; records = n }
planned_of (Err x) = record { refusal = number_of x; reader = reader_of x; records = 0 }

pub record PlanTold (f : List ℕ) (w : Window) (old new : List ℕ) (r : Planned) : Type 0 where
  pub answers : Result ℕ Refusal
  pub numbers : r ≡ planned_of answers
  pub made : Made f w old new answers

abbrev pub carry_number : Result ⊤ Refusal → ℕ
carry_number (Ok x) = 0
carry_number (Err x) = number_of x

pub record CarryTold (f : List ℕ) (w : Window) (t : List ℕ) (n : ℕ) (old new : List ℕ) (r : ℕ) : Type 0 where
  pub answers : Result ⊤ Refusal
  pub numbers : r ≡ carry_number answers
  pub carried : CarriedOut f w t n old new answers

pub record LoadTold (f : List ℕ) (w : Window) (table table' old new : List ℕ) (r : Planned) : Type 0 where
  pub answers : Result ℕ Refusal
  pub numbers : r ≡ planned_of answers
  pub outcome : Outcome f w table table' old new answers
