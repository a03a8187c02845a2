pub mod ScopedViewIndex
