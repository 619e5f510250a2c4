-- One name that opens every definition, for what is computed.
use Prim.Native.Nat.{ℕ}
use Rattle.parlog.proofs.Opened.{opened}
use Rattle.parlog.specs.Tables.{written}
use Rattle.spell.specs.Grammar.{text}
use Rattle.spell.specs.Stuck.{after, afters, all_behind, any_ends, behind, ends, spelling, spelling_of}
use Rattle.text_names.specs.Bytes.{back, front, is_blank, is_capital, is_name, is_small, skip}
use Rattle.text_names.specs.Entries.{behind_entry, entries, entry_from, is_entry}
use Rattle.text_names.specs.Names.{add, adds, look, same_name}
use Rattle.text_program.specs.Encoded.{ask_bytes, clause_bytes, goal_bytes, literal_bytes, program_bytes, record_bytes, relation_bytes, stage_bytes, term_bytes}
use Rattle.text_program.specs.Numbered.{clauses_behind, clauses_numbered, constant_names, joined, lowers, program_in, term_numbered, uppers}
use Rattle.text_program.specs.Parsing.{all_of, declared, image_in, names_in, parse_call, records_in, repeated, text_verdict}
use Rattle.text_program.specs.Printing.{bracket_text, clauses_text, clause_text, goal_line_text, goal_text, halves_text, literal_named, literal_text, mode_lines_text, mode_line_text, print_call, program_named, program_text, relations_named, row_text, term_named, term_text}
use Rattle.text_program.specs.Source.{is_clause, is_mode_line, lines_for, read_body, read_brackets, read_clause, read_goal, read_halves, read_literal, read_mode_line, read_term, row_for, source_of}

-- opens them all
unfoldable pub text_opened : ℕ
unfolding opened written text after afters all_behind any_ends behind ends spelling spelling_of back front is_blank is_capital is_name is_small skip behind_entry entries entry_from is_entry add adds look same_name ask_bytes clause_bytes goal_bytes literal_bytes program_bytes record_bytes relation_bytes stage_bytes term_bytes clauses_behind clauses_numbered constant_names joined lowers program_in term_numbered uppers all_of declared image_in names_in parse_call records_in repeated text_verdict bracket_text clauses_text clause_text goal_line_text goal_text halves_text literal_text mode_lines_text mode_line_text literal_named print_call program_named program_text relations_named row_text term_named term_text is_clause is_mode_line lines_for read_body read_brackets read_clause read_goal read_halves read_literal read_mode_line read_term row_for source_of
text_opened = 0
