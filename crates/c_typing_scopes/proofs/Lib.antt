mod Leaving
mod Tables
